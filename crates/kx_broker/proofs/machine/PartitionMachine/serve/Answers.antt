use Rattle.std.proofs.Common.{subst, sym}
use Rattle.kx_broker.specs.Serving.{IsServed, Serves}
use Rattle.kx_broker.proofs.Messages.{fetch_served, none_served}
use Rattle.kx_group.proofs.Answers.{if_ok}
use Rattle.kx_message.specs.declared.message.Message.{Message}
use Rattle.kx_model.specs.PartitionNode.{data_takes}
use Rattle.std.specs.Prelude.{IfOk}
use Rattle.kx_broker.proofs.machine.PartitionMachine.serve.Goals as goal

pub returns-in-Fetch-clause-ok : goal.returns-in-Fetch-clause-ok
returns-in-Fetch-clause-ok g c = λ number p is.
    let it = c.in-Fetch.it in
    let old = c.args.self.now in
    subst (λ (m : Message). IfOk c.fetch.result (Serves (IsServed number) p old old
    (λ store. data_takes number p store m))) (sym c.in-Fetch.is)
    (if_ok c.fetch.result c.fetch.ensures.ok
    (λ messages e. fetch_served number p old is messages it e))

pub returns-in_default-clause-ok : goal.returns-in_default-clause-ok
returns-in_default-clause-ok g c = λ number p is.
    none_served number p c.args.self.now is c.none.result c.args.message.now
    c.in_default.not-Produce c.in_default.not-Fetch c.in_default.not-AddReply
    c.in_default.not-WriteMarker c.none.ensures

pub returns-in-Produce-clause-ok : goal.returns-in-Produce-clause-ok
returns-in-Produce-clause-ok g c = λ number p is.
    subst (λ (m : Message). IfOk c.produce.result (Serves (IsServed number) p c.args.self.now
    c.produce.new.self (λ store. data_takes number p store m))) (sym c.in-Produce.is)
    (c.produce.ensures.ok number p is)

pub returns-in-AddReply-clause-ok : goal.returns-in-AddReply-clause-ok
returns-in-AddReply-clause-ok g c = λ number p is.
    subst (λ (m : Message). IfOk c.add_reply.result (Serves (IsServed number) p c.args.self.now
    c.add_reply.new.self (λ store. data_takes number p store m))) (sym c.in-AddReply.is)
    (c.add_reply.ensures.ok number p is)

pub returns-in-WriteMarker-clause-ok : goal.returns-in-WriteMarker-clause-ok
returns-in-WriteMarker-clause-ok g c = λ number p is.
    subst (λ (m : Message). IfOk c.marker.result (Serves (IsServed number) p c.args.self.now
    c.marker.new.self (λ store. data_takes number p store m))) (sym c.in-WriteMarker.is)
    (c.marker.ensures.ok number p is)
