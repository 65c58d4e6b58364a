use Rattle.std.proofs.Common.{◌∙◌}
use Rattle.kx_broker.specs.Serving.{IsServed}
use Rattle.kx_broker.proofs.Messages.{refused_each}
use Rattle.kx_broker.proofs.Served.{as_seen, serving}
use Rattle.kx_model.specs.PartitionNode.{on_add_reply}
use Rattle.kx_broker.proofs.machine.PartitionMachine.refuse_parked.Goals as goal

pub returns-clause-ok : goal.returns-clause-ok
returns-clause-ok g c = λ number p is.
    let inside = c.self.inside in
    let old = serving inside.number inside.partition inside.guard in
    let new = serving inside.number inside.partition c.reply-refused.new.self in
    let held = c.args.held.now in
    as_seen (IsServed number) p old c.args.self.now new
    (λ store. on_add_reply number p store held c.args.code) _ c.from_vec.result c.self.view_is
    (c.from_vec.ensures ∙ c.pass_on-replies.ensures)
    (λ stands. refused_each number p old stands held c.reply-refused.new.self
    c.reply-refused.ensures.others c.args.code c.parked-requests.result.now c.requires
    c.parked-requests.ensures.value) is
