use Rattle.std.proofs.Common.{◌≡◌, ◌∙◌, true, ap, length, subst, sym, rules}
use Rattle.std.specs.List.{AllByRecursion}
use Rattle.std.specs.Int.{w64}
use Rattle.std.specs.Int.RustNames.{FitsSigned}
use Rattle.std.proofs.lemmas.Int.{to_z-of_z}
use lib.IntN.{nat_abs}
use mir.Val.{of_z, to_z}
use Rattle.kx_commits.specs.Kept.{SameKept, noted_all}
use Rattle.kx_commits.specs.Table.{kept_of}
use Rattle.kx_model.specs.Groups.{fact_of}
use Rattle.kx_group.specs.Internal.Commits.{MayWait, said_of}
use Rattle.kx_group.specs.Log.{is_offset}
use Rattle.kx_group.proofs.Answers.{on_any}
use Rattle.kx_group.proofs.Same.{kept_is}
use Rattle.kx_group.proofs.Taking.{may_wait, no_offsets, offsets_fit, offsets_kept, outside}
use Rattle.kx_group.proofs.notes.Notes.take_offsets.Goals as goal
use goal.{then-not-is_transactional-via-then-not-is_transactional}
use goal.{then-not-is_transactional-via-else-not-is_transactional+then-not-say_offsets}

pub returns-then-not-is_transactional-clause-ok
    : goal.returns-then-not-is_transactional-clause-ok
returns-then-not-is_transactional-clause-ok c = λ log next of_id fits.
    elim c.then-not-is_transactional.branch [
      | then-not-is_transactional-via-then-not-is_transactional w ↦
          outside log c.args.self.now c.args.batch.now next c.args.id of_id
          (sym c.is_transactional.ensures ∙ w.if-not-is_transactional.true) fits
      | then-not-is_transactional-via-else-not-is_transactional+then-not-say_offsets w ↦
          no_offsets log c.args.self.now c.args.batch.now next c.args.id of_id
          (λ all. let h = sym (w.say_offsets.ensures.1
          (subst (AllByRecursion (λ r. is_offset (fact_of r) ≡ true)) (sym w.records.ensures.value)
          all)) ∙ w.if-not-say_offsets.true in cc) fits
    ]

pub returns-in_err-reserve-clause-err : goal.returns-in_err-reserve-clause-err
returns-in_err-reserve-clause-err c = on_any c.from_residual.result (λ log next of_id.
    offsets_fit log c.args.self.now c.args.batch.now next c.args.id of_id
    (sym c.is_transactional.ensures ∙ c.if-not-is_transactional.false)
    (subst (AllByRecursion (λ r. is_offset (fact_of r) ≡ true)) c.records.ensures.value
    (c.say_offsets.ensures.0 c.if-not-say_offsets.false)))

pub note_offsets-requires-clause-few : goal.note_offsets-requires-clause-few
note_offsets-requires-clause-few c =
    let log = c.requires.0 in
    subst (λ records. MayWait (kept_of c.reserve.new.self) (length records))
    (sym c.records-3.ensures.value)
    (may_wait log c.args.self.now c.args.batch.now c.requires.1 c.args.id c.requires.2
    c.reserve.new.self c.reserve.ensures.same)

pub returns-clause-ok : goal.returns-clause-ok
returns-clause-ok c = λ log next of_id.
    let old = c.args.self.now in
    let offset = c.base_offset-at.result in
    let fits : FitsSigned w64 offset = search rules in
    let at = nat_abs (to_z w64 (of_z w64 offset)) in
    let place = ap nat_abs (to_z-of_z w64 offset fits ∙ c.base_offset-at.ensures.value ∙ next.at) in
    offsets_kept log old c.args.batch.now next c.args.id of_id
    (sym c.is_transactional.ensures ∙ c.if-not-is_transactional.false)
    (subst (AllByRecursion (λ r. is_offset (fact_of r) ≡ true)) c.records.ensures.value
    (c.say_offsets.ensures.0 c.if-not-say_offsets.false))
    c.note_offsets.new.commits at c.records-3.result place c.records-3.ensures.value
    (subst (λ kept. SameKept (kept_of c.note_offsets.new.commits)
    (noted_all c.args.id (said_of at c.records-3.result) kept))
    (kept_is (kept_of c.reserve.new.self) (kept_of old.commits) c.reserve.ensures.same)
    c.note_offsets.ensures)
