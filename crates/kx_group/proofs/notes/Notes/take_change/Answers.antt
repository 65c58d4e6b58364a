use Rattle.std.proofs.Common.{◌∙◌, ap, subst, sym}
use Rattle.kx_members.specs.Standing.{after}
use Rattle.kx_members.specs.Table.{CanNote, group_in, standing_in}
use Rattle.kx_members.proofs.Noting.{can_note}
use Rattle.kx_model.specs.Log.{entries}
use Rattle.kx_offsets.specs.Facts.{defined}
use Rattle.kx_group.specs.Internal.Kept.{MakesBy}
use Rattle.kx_group.proofs.Answers.{on_any}
use Rattle.kx_group.proofs.Taking.{change_fits, change_kept, makes, makes_nothing, says_nothing}
use Rattle.kx_group.proofs.notes.Notes.take_change.Goals as goal

pub returns-in_default-clause-ok : goal.returns-in_default-clause-ok
returns-in_default-clause-ok c = λ log next fits.
    says_nothing log c.args.self.now c.args.batch.now next c.requires.plain c.in_default.ensures
    fits

pub returns-in_default-made_in-clause-ok : goal.returns-in_default-made_in-clause-ok
returns-in_default-made_in-clause-ok c = λ log next fits.
    makes_nothing log c.args.self.now c.args.batch.now next c.requires.plain
    (defined c.in-Some.change) c.in-Some.ensures c.in_default-made_in.ensures fits

pub returns-in_err-reserve-clause-err : goal.returns-in_err-reserve-clause-err
returns-in_err-reserve-clause-err c = on_any c.from_residual.result (λ log next.
    let fact = defined c.in-Some.change in
    let by = subst (λ g. MakesBy (standing_in c.args.self.now.members g) fact)
    c.in-Some-made_in.ensures.1 c.in-Some-made_in.ensures.0 in
    change_fits log c.args.self.now c.args.batch.now next c.requires.plain fact
    c.in-Some.ensures by)

pub note-requires-clause-made : goal.note-requires-clause-made
note-requires-clause-made c =
    let log = c.requires.next.0 in
    let next = c.requires.next.1 in
    let fact = defined c.in-Some.change in
    let old = c.args.self.now in
    let by = subst (λ g. MakesBy (standing_in old.members g) fact)
    c.in-Some-made_in.ensures.1 c.in-Some-made_in.ensures.0 in
    subst (λ s. CanNote s fact) (sym (c.reserve.ensures.same (group_in fact)))
    (can_note (standing_in old.members) (entries log) fact next.kept.follows.members
    (makes log old c.args.batch.now next c.requires.plain fact c.in-Some.ensures by))

pub returns-clause-ok : goal.returns-clause-ok
returns-clause-ok c = λ log next.
    let fact = defined c.in-Some.change in
    let old = c.args.self.now in
    let by = subst (λ g. MakesBy (standing_in old.members g) fact)
    c.in-Some-made_in.ensures.1 c.in-Some-made_in.ensures.0 in
    change_kept log old c.args.batch.now next c.requires.plain fact c.in-Some.ensures by
    c.note.new.self
    (λ group. c.note.ensures group ∙ ap (after fact group) (c.reserve.ensures.same group))
