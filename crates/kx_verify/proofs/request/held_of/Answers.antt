use Rattle.std.proofs.Common.{rules, sym, ◌∙◌, ◌≤ℤ◌, pos, arith}
use Rattle.std.specs.Int.{w16, w32, w64}
use Rattle.std.specs.Int.RustNames.{FitsSigned}
use Rattle.std.proofs.lemmas.Int.{ints, to_z-of_z}
use Rattle.kx_verify.proofs.Pairs.{sequenced_pair}
use Rattle.kx_verify.proofs.request.held_of.Goals as goal

pub returns : goal.returns
returns c =
    let fits : FitsSigned w32 c.base_sequence.result = search rules in
    let id : FitsSigned w64 c.producer_id.result = search rules in
    let epoch : FitsSigned w16 c.producer_epoch.result = search rules in
    let le : pos 0 ≤ℤ c.base_sequence.result =
    omega (arith, ints, c.if-base_sequence-lt0.false, to_z-of_z w32 c.base_sequence.result fits) in
    sequenced_pair c.args.batch.now.batch c.in-Ok.id c.in-Ok-try_from.epoch c.base_sequence.result
    (sym c.is_control.ensures ∙ c.if-is_control.false)
    (sym c.producer_id.ensures.value ∙ sym (to_z-of_z w64 c.producer_id.result id)
    ∙ c.in-Ok.ensures)
    (sym c.producer_epoch.ensures.value ∙ sym (to_z-of_z w16 c.producer_epoch.result epoch)
    ∙ c.in-Ok-try_from.ensures)
    (sym c.base_sequence.ensures.value) le
