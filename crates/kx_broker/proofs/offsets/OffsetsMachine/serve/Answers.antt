use Rattle.std.proofs.Common.{subst, sym}
use Rattle.std.specs.Prelude.{IfOk}
use Rattle.kx_broker.specs.Offsets.{KeepsOffsets}
use Rattle.kx_broker.specs.Serving.{Serves}
use Rattle.kx_broker.proofs.OffsetsMessages.{none_served}
use Rattle.kx_message.specs.declared.message.Message.{Message}
use Rattle.kx_model.specs.PartitionNode.{offsets_takes}
use Rattle.kx_broker.proofs.offsets.OffsetsMachine.serve.Goals as goal

pub returns-in_default-clause-ok : goal.returns-in_default-clause-ok
returns-in_default-clause-ok g c = λ p is.
    none_served p c.args.self.now is c.none.result c.args.message.now (record {
      commit = c.in_default.not-TxnOffsetCommit;
      join = c.in_default.not-Join;
      leave = c.in_default.not-Leave;
      offset = c.in_default.not-OffsetFetch;
      batch = c.in_default.not-Produce;
      reply = c.in_default.not-AddReply;
      marker = c.in_default.not-WriteMarker;
      fetch = c.in_default.not-Fetch;
    }) c.none.ensures

pub returns-in-TxnOffsetCommit-clause-ok : goal.returns-in-TxnOffsetCommit-clause-ok
returns-in-TxnOffsetCommit-clause-ok g c = λ p is.
    subst (λ (m : Message). IfOk c.commit.result (Serves KeepsOffsets p c.args.self.now
    c.commit.new.self (λ store. offsets_takes p store m))) (sym c.in-TxnOffsetCommit.is)
    (c.commit.ensures.ok p is)

pub returns-in-Join-clause-ok : goal.returns-in-Join-clause-ok
returns-in-Join-clause-ok g c = λ p is.
    subst (λ (m : Message). IfOk c.join.result (Serves KeepsOffsets p c.args.self.now
    c.join.new.self (λ store. offsets_takes p store m))) (sym c.in-Join.is)
    (c.join.ensures.ok p is)

pub returns-in-Leave-clause-ok : goal.returns-in-Leave-clause-ok
returns-in-Leave-clause-ok g c = λ p is.
    subst (λ (m : Message). IfOk c.leave.result (Serves KeepsOffsets p c.args.self.now
    c.leave.new.self (λ store. offsets_takes p store m))) (sym c.in-Leave.is)
    (c.leave.ensures.ok p is)

pub returns-in-AddReply-clause-ok : goal.returns-in-AddReply-clause-ok
returns-in-AddReply-clause-ok g c = λ p is.
    subst (λ (m : Message). IfOk c.add_reply.result (Serves KeepsOffsets p c.args.self.now
    c.add_reply.new.self (λ store. offsets_takes p store m))) (sym c.in-AddReply.is)
    (c.add_reply.ensures.ok p is)

pub returns-in-WriteMarker-clause-ok : goal.returns-in-WriteMarker-clause-ok
returns-in-WriteMarker-clause-ok g c = λ p is.
    subst (λ (m : Message). IfOk c.marker.result (Serves KeepsOffsets p c.args.self.now
    c.marker.new.self (λ store. offsets_takes p store m))) (sym c.in-WriteMarker.is)
    (c.marker.ensures.ok p is)

pub returns-in-OffsetFetch-clause-ok : goal.returns-in-OffsetFetch-clause-ok
returns-in-OffsetFetch-clause-ok g c = λ p is.
    let old = c.args.self.now in
    subst (λ (m : Message). Serves KeepsOffsets p old old (λ store. offsets_takes p store m)
    c.offset_fetch.result) (sym c.in-OffsetFetch.is) (c.offset_fetch.ensures p is)

pub returns-in-Produce-clause-ok : goal.returns-in-Produce-clause-ok
returns-in-Produce-clause-ok g c = λ p is.
    let old = c.args.self.now in
    subst (λ (m : Message). Serves KeepsOffsets p old old (λ store. offsets_takes p store m)
    c.refuse.result) (sym c.in-Produce.is) (c.refuse.ensures p is)

pub returns-in-Fetch-clause-ok : goal.returns-in-Fetch-clause-ok
returns-in-Fetch-clause-ok g c = λ p is.
    let old = c.args.self.now in
    subst (λ (m : Message). IfOk c.fetch.result (Serves KeepsOffsets p old old
    (λ store. offsets_takes p store m))) (sym c.in-Fetch.is) (c.fetch.ensures.ok p is)
