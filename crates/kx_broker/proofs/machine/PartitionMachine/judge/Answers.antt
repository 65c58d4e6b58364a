use Rattle.std.proofs.Common.{◌∙◌, ◌∷◌, [], ap, subst, sym, rules, false}
use Rattle.std.specs.Prelude.{IfOk}
use Rattle.std.specs.Int.{w64}
use Rattle.std.specs.Int.RustNames.{FitsSigned}
use Rattle.std.proofs.lemmas.Int.{to_z-of_z}
use Rattle.kx_broker.specs.Serving.{IsServed, Serves, Serving}
use Rattle.kx_broker.proofs.Messages.{IsHeld, answered_as, asks}
use Rattle.kx_broker.proofs.Served.{as_seen, serving}
use Rattle.kx_group.proofs.Answers.{on_err}
use Rattle.kx_log.specs.LogState.{LogState}
use Rattle.kx_message.specs.Messages as the
use Rattle.kx_message.specs.declared.message.Message.{Message}
use Rattle.kx_message.specs.declared.message.Message.TheVariants as msg
use Rattle.kx_model.specs.Log.{entries}
use Rattle.kx_model.specs.PartitionNode.{on_request}
use Rattle.kx_model.specs.Produce.{judge_text}
use Rattle.kx_model.specs.Verification.{request_of}
use Rattle.kx_partition.specs.Answer.{IsProduced}
use Rattle.kx_varint.specs.Text.{IsBytes}
use Rattle.kx_broker.proofs.machine.PartitionMachine.judge.Goals as goal

pub park-requires-clause-bytes : goal.park-requires-clause-bytes
park-requires-clause-bytes g c = subst IsBytes c.as_slice-text.ensures c.bytes_fit.ensures

pub park-requires-clause-asks : goal.park-requires-clause-asks
park-requires-clause-asks g c =
    let old = c.self.inside.partition in
    let text = c.as_slice-text.result.now in
    let asked = asks old.closed (judge_text (entries old.batches) false text) text old
    c.produce.new.self c.in_ok-answer.answer c.in_ok-answer.ensures.answer c.in-Unverified.is in
    ap (λ (l : LogState). judge_text (entries l.batches) false c.args.it.now.batch) asked.1
    ∙ ap (judge_text (entries old.batches) false) (sym c.as_slice-text.ensures) ∙ asked.0

pub returns-in-Unverified-clause-ok : goal.returns-in-Unverified-clause-ok
returns-in-Unverified-clause-ok g c = λ number p is.
    let inside = c.self.inside in
    let old = inside.partition in
    let text = c.as_slice-text.result.now in
    let asked = asks old.closed (judge_text (entries old.batches) false text) text old
    c.produce.new.self c.in_ok-answer.answer c.in_ok-answer.ensures.answer c.in-Unverified.is in
    let same = ap (λ (l : LogState). serving inside.number l inside.guard) asked.1
    ∙ c.self.view_is in
    let between = serving inside.number c.produce.new.self inside.guard in
    let stands = subst (λ (o : Serving). IsServed number p o) (sym same) is in
    subst (λ (o : Serving). IfOk c.park.result (Serves (IsServed number) p o c.park.new.self
    (λ store. on_request number p store (request_of (msg.Produce c.args.it.now))))) same
    (c.park.ensures.ok number p stands)

pub returns-in-Unverified-clause-err : goal.returns-in-Unverified-clause-err
returns-in-Unverified-clause-err g c =
    let inside = c.self.inside in
    let old = inside.partition in
    let text = c.as_slice-text.result.now in
    let asked = asks old.closed (judge_text (entries old.batches) false text) text old
    c.produce.new.self c.in_ok-answer.answer c.in_ok-answer.ensures.answer c.in-Unverified.is in
    let same = ap (λ (l : LogState). serving inside.number l inside.guard) asked.1
    ∙ c.self.view_is in
    on_err c.park.result c.park.ensures.err (λ e. e ∙ same)

pub returns-clause-ok : goal.returns-clause-ok
returns-clause-ok g c = λ number p is.
    let inside = c.self.inside in
    let it = c.args.it.now in
    let answer = c.in_ok-answer.answer in
    let old = serving inside.number inside.partition inside.guard in
    let new = serving inside.number c.produce.new.self inside.guard in
    let known : IsHeld inside.partition = record {
      placed = c.end-end.ensures.log;
      grown = c.end-end.ensures.grown;
      holds = c.end-end.ensures.store;
    } in
    let text = c.as_slice-text.ensures in
    let bytes = subst IsBytes text c.bytes_fit.ensures in
    let judged = subst (λ t. IsProduced t false inside.partition c.produce.new.self answer) text
    c.in_ok-answer.ensures.answer in
    let fits : FitsSigned w64 c.offset_of.result = search rules in
    let offset = to_z-of_z w64 c.offset_of.result fits ∙ c.offset_of.ensures in
    let reply = c.reply-reply.ensures
    ∙ λ i. the.ProduceReply it.caller it.partition (c.code.ensures i) (offset i) in
    as_seen (IsServed number) p old c.args.self.now new
    (λ store. on_request number p store (request_of (msg.Produce it))) _ c.one.result
    c.self.view_is (c.one.ensures ∙ ap (λ (m : Message). m ∷ []) reply)
    (λ stands. answered_as number p old stands it known c.produce.new.self answer bytes judged
    c.in_default.not-Unverified) is
