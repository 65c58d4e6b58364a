use Rattle.std.proofs.Common.{◌≡◌, ◌∙◌, ◌∷◌, [], List, ap, arith, refl, rules, subst, sym, false}
use Rattle.std.proofs.Common.{Some}
use Rattle.std.specs.Int.{w32}
use Rattle.std.specs.Int.RustNames.{FitsSigned}
use Rattle.std.specs.Prelude.{IfOk, ◌<ℤ◌, ◌≤ℤ◌, pos}
use Rattle.std.proofs.lemmas.Int.{ints, to_z-of_z}
use Rattle.kx_broker.specs.Memory.{GroupsMayLack}
use Rattle.kx_broker.specs.Offsets.{KeepsOffsets}
use Rattle.kx_broker.specs.Serving.{Serves, Serving}
use Rattle.kx_broker.proofs.Adding.{may_park}
use Rattle.kx_broker.proofs.OffsetsMessages.{commit_below_0, commit_full, commit_parked}
use Rattle.kx_broker.proofs.OffsetsMessages.{parked_at_0}
use Rattle.kx_broker.proofs.Served.{as_seen, serving}
use Rattle.kx_group.proofs.Answers.{on_any}
use Rattle.kx_group.specs.Calls.{text_of}
use Rattle.kx_message.specs.Ranges.{offsets_partition}
use Rattle.kx_message.specs.declared.message.Message.{Message}
use Rattle.kx_message.specs.declared.message.Message.TheVariants as msg
use Rattle.kx_message.specs.declared.requests.TxnOffsetCommit.{TxnOffsetCommit}
use Rattle.kx_model.specs.Groups.{judge_offsets}
use Rattle.kx_model.specs.Log.{entries}
use Rattle.kx_model.specs.PartitionNode.{offsets_takes}
use Rattle.kx_model.specs.Produce.{Unverified}
use Rattle.kx_model.specs.Verification.{Parked, ToGroup}
use Rattle.kx_offsets.specs.Facts.{CommitFits}
use Rattle.kx_verify.proofs.Pairs.{commit_pair}
use Rattle.kx_verify.specs.Request.{IsParked}
use Rattle.kx_broker.proofs.offsets.OffsetsMachine.park.Goals as goal
use Rattle.kx_broker.proofs.offsets.OffsetsMachine.park.Goals.{in-Full, in-Parked}

-- the commit as it is parked
abbrev as_parked : TxnOffsetCommit → Parked
as_parked it = record {
  held = it.held;
  request = record {
    caller = it.caller;
    txn = Some it.txn;
    target = ToGroup it.group it.member it.generation;
    text = text_of it;
  };
}

parked_so : (it : TxnOffsetCommit) → CommitFits it.group it.held it.first_sequence it.offsets
    → pos 0 ≤ℤ it.first_sequence → IsParked (msg.TxnOffsetCommit it) (as_parked it)
parked_so it fits above = record {
  request = refl;
  held = commit_pair it.group it.held it.first_sequence it.offsets above fits;
}

pub ask-requires-clause-at_0 : goal.ask-requires-clause-at_0
ask-requires-clause-at_0 g c = λ r parked.
    let it = c.args.it.now in
    let inside = c.self.inside in
    let fits : FitsSigned w32 it.first_sequence = search rules in
    let above : pos 0 ≤ℤ it.first_sequence =
    omega (arith, ints, c.if-it-lt0.false, to_z-of_z w32 it.first_sequence fits) in
    let asks = subst (λ (o : Serving). judge_offsets (entries o.log.batches) false it.group
    it.member it.generation (text_of it) ≡ Unverified) (sym c.self.view_is) c.requires.asks in
    parked_at_0 inside.groups.batches it it r c.end_of-end.ensures.kept.fits
    c.commits_fit.ensures asks refl parked above

pub returns-then-it-lt0-clause-ok : goal.returns-then-it-lt0-clause-ok
returns-then-it-lt0-clause-ok g c = λ p is.
    let old = c.args.self.now in
    let it = c.args.it.now in
    let fits : FitsSigned w32 it.first_sequence = search rules in
    let below : it.first_sequence <ℤ pos 0 =
    omega (arith, ints, c.if-it-lt0.true, to_z-of_z w32 it.first_sequence fits) in
    as_seen KeepsOffsets p old old old
    (λ store. offsets_takes p store (msg.TxnOffsetCommit it)) _ c.one.result
    (λ i. old) (c.one.ensures ∙ ap (λ (m : Message). m ∷ []) c.reply.ensures)
    (λ stands. commit_below_0 p old stands it c.requires.asks c.commits_fit.ensures below) is

pub returns-in_err-ask-clause-err : goal.returns-in_err-ask-clause-err
returns-in_err-ask-clause-err g c =
    let it = c.args.it.now in
    let inside = c.self.inside in
    let fits : FitsSigned w32 it.first_sequence = search rules in
    let above : pos 0 ≤ℤ it.first_sequence =
    omega (arith, ints, c.if-it-lt0.false, to_z-of_z w32 it.first_sequence fits) in
    on_any c.from_residual.result
    (ap (λ (l : List Parked). serving offsets_partition inside.groups l)
    (c.in_err-ask.ensures (as_parked it) (parked_so it c.commits_fit.ensures above)).0
    ∙ c.self.view_is)

pub returns-in_err-ask-clause-memory : goal.returns-in_err-ask-clause-memory
returns-in_err-ask-clause-memory g c = λ e.
    let it = c.args.it.now in
    let inside = c.self.inside in
    let fits : FitsSigned w32 it.first_sequence = search rules in
    let above : pos 0 ≤ℤ it.first_sequence =
    omega (arith, ints, c.if-it-lt0.false, to_z-of_z w32 it.first_sequence fits) in
    let parked = parked_so it c.commits_fit.ensures above in
    let asks = subst (λ (o : Serving). judge_offsets (entries o.log.batches) false it.group
    it.member it.generation (text_of it) ≡ Unverified) (sym c.self.view_is) c.requires.asks in
    subst (λ (o : Serving). GroupsMayLack o (msg.TxnOffsetCommit it)) c.self.view_is
    (may_park inside.parked inside.groups.closed
    (judge_offsets (entries inside.groups.batches) false it.group it.member it.generation
    (text_of it)) (as_parked it) it.txn asks refl parked.held
    (c.in_err-ask.ensures (as_parked it) parked).1)

pub returns-clause-ok : goal.returns-clause-ok
returns-clause-ok g c = λ p is.
    let it = c.args.it.now in
    let inside = c.self.inside in
    let fits : FitsSigned w32 it.first_sequence = search rules in
    let above : pos 0 ≤ℤ it.first_sequence =
    omega (arith, ints, c.if-it-lt0.false, to_z-of_z w32 it.first_sequence fits) in
    let request = as_parked it in
    let old = serving offsets_partition inside.groups inside.parked in
    let new = serving offsets_partition inside.groups c.ask.new.self in
    let asks = subst (λ (o : Serving). judge_offsets (entries o.log.batches) false it.group
    it.member it.generation (text_of it) ≡ Unverified) (sym c.self.view_is) c.requires.asks in
    let parked = parked_so it c.commits_fit.ensures above in
    let commits = parked_at_0 inside.groups.batches it it request
    c.end_of-end.ensures.kept.fits c.commits_fit.ensures asks refl parked above in
    let asked = c.in_ok-ask.ensures request parked in
    elim c.match-branch-2.branch [
      | in-Parked w ↦
          subst (λ r. IfOk r (Serves KeepsOffsets p c.args.self.now new
          (λ store. offsets_takes p store (msg.TxnOffsetCommit it)))) (sym w.result-is)
          (as_seen KeepsOffsets p old c.args.self.now new
          (λ store. offsets_takes p store (msg.TxnOffsetCommit it)) _
          w.one-in-Parked.result c.self.view_is w.one-in-Parked.ensures
          (λ stands. commit_parked p old stands it asks request parked commits c.ask.new.self
          asked.1 (sym w.in-Parked.is ∙ asked.0)) is)
      | in-Full w ↦
          subst (λ r. IfOk r (Serves KeepsOffsets p c.args.self.now new
          (λ store. offsets_takes p store (msg.TxnOffsetCommit it)))) (sym w.result-is)
          (as_seen KeepsOffsets p old c.args.self.now new
          (λ store. offsets_takes p store (msg.TxnOffsetCommit it)) _
          w.one-in-Full.result c.self.view_is
          (w.one-in-Full.ensures ∙ ap (λ (m : Message). m ∷ []) w.reply-refusal.ensures)
          (λ stands. commit_full p old stands it asks request parked commits c.ask.new.self
          asked.1 (sym w.in-Full.is ∙ asked.0)) is)
    ]
