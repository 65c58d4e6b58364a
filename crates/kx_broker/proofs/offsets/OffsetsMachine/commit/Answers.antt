use Rattle.std.proofs.Common.{◌∙◌, ◌∷◌, [], ap, subst, sym, false}
use Rattle.std.specs.Prelude.{IfOk}
use Rattle.kx_broker.specs.Memory.{GroupsMayLack}
use Rattle.kx_broker.specs.Offsets.{KeepsOffsets}
use Rattle.kx_broker.specs.Serving.{Serves, Serving}
use Rattle.kx_broker.proofs.Messages.{asks}
use Rattle.kx_broker.proofs.OffsetsMessages.{commit_answered}
use Rattle.kx_broker.proofs.Served.{as_seen, serving}
use Rattle.kx_group.proofs.Answers.{on_err}
use Rattle.kx_group.specs.Calls.{text_of}
use Rattle.kx_log.specs.LogState.{LogState}
use Rattle.kx_message.specs.Messages as the
use Rattle.kx_message.specs.Ranges.{offsets_partition}
use Rattle.kx_message.specs.declared.message.Message.{Message}
use Rattle.kx_message.specs.declared.message.Message.TheVariants as msg
use Rattle.kx_model.specs.Groups.{judge_offsets}
use Rattle.kx_model.specs.Log.{entries}
use Rattle.kx_model.specs.PartitionNode.{offsets_takes}
use Rattle.kx_broker.proofs.offsets.OffsetsMachine.commit.Goals as goal

pub park-requires : goal.park-requires
park-requires g c =
    let it = c.args.it.now in
    let old = c.self.inside.groups in
    let judged = λ (l : LogState). judge_offsets (entries l.batches) false it.group it.member
    it.generation (text_of it) in
    let asked = asks old.closed (judged old) (text_of it) old c.txn_offset_commit.new.self
    c.in_ok-answer.answer c.in_ok-answer.ensures.answer c.in-Unverified.is in
    record { asks = ap judged asked.1 ∙ asked.0 }

pub returns-in-Unverified-clause-ok : goal.returns-in-Unverified-clause-ok
returns-in-Unverified-clause-ok g c = λ p is.
    let it = c.args.it.now in
    let inside = c.self.inside in
    let old = inside.groups in
    let asked = asks old.closed (judge_offsets (entries old.batches) false it.group it.member
    it.generation (text_of it)) (text_of it) old c.txn_offset_commit.new.self
    c.in_ok-answer.answer c.in_ok-answer.ensures.answer c.in-Unverified.is in
    let same = ap (λ (l : LogState). serving offsets_partition l inside.parked) asked.1
    ∙ c.self.view_is in
    let stands = subst (λ (o : Serving). KeepsOffsets p o) (sym same) is in
    subst (λ (o : Serving). IfOk c.park.result (Serves KeepsOffsets p o c.park.new.self
    (λ store. offsets_takes p store (msg.TxnOffsetCommit it)))) same
    (c.park.ensures.ok p stands)

pub returns-in-Unverified-clause-err : goal.returns-in-Unverified-clause-err
returns-in-Unverified-clause-err g c =
    let it = c.args.it.now in
    let inside = c.self.inside in
    let old = inside.groups in
    let asked = asks old.closed (judge_offsets (entries old.batches) false it.group it.member
    it.generation (text_of it)) (text_of it) old c.txn_offset_commit.new.self
    c.in_ok-answer.answer c.in_ok-answer.ensures.answer c.in-Unverified.is in
    let same = ap (λ (l : LogState). serving offsets_partition l inside.parked) asked.1
    ∙ c.self.view_is in
    on_err c.park.result c.park.ensures.err (λ e. e ∙ same)

pub returns-in-Unverified-clause-memory : goal.returns-in-Unverified-clause-memory
returns-in-Unverified-clause-memory g c = λ e.
    let it = c.args.it.now in
    let inside = c.self.inside in
    let old = inside.groups in
    let asked = asks old.closed (judge_offsets (entries old.batches) false it.group it.member
    it.generation (text_of it)) (text_of it) old c.txn_offset_commit.new.self
    c.in_ok-answer.answer c.in_ok-answer.ensures.answer c.in-Unverified.is in
    let same = ap (λ (l : LogState). serving offsets_partition l inside.parked) asked.1
    ∙ c.self.view_is in
    subst (λ (o : Serving). GroupsMayLack o (msg.TxnOffsetCommit it)) same
    (c.park.ensures.memory e)

pub returns-clause-ok : goal.returns-clause-ok
returns-clause-ok g c = λ p is.
    let inside = c.self.inside in
    let it = c.args.it.now in
    let answer = c.in_ok-answer.answer in
    let old = serving offsets_partition inside.groups inside.parked in
    let new = serving offsets_partition c.txn_offset_commit.new.self inside.parked in
    let reply = c.reply.ensures ∙ ap (the.OffsetsReply it.caller) c.code.ensures in
    as_seen KeepsOffsets p old c.args.self.now new
    (λ store. offsets_takes p store (msg.TxnOffsetCommit it)) _ c.one.result
    c.self.view_is (c.one.ensures ∙ ap (λ (m : Message). m ∷ []) reply)
    (λ stands. commit_answered p old stands it c.end_of-end.ensures.kept c.commits_fit.ensures
    c.txn_offset_commit.new.self answer c.in_ok-answer.ensures.answer
    c.in_default.not-Unverified) is
