use Rattle.std.proofs.Common.{◌∙◌, ap, refl, rules, subst, sym}
use Rattle.std.specs.Int.{w16, w64}
use Rattle.std.specs.Int.RustNames.{FitsSigned}
use Rattle.std.specs.Prelude.{◌<ℤ◌, pos}
use Rattle.std.proofs.lemmas.Int.{to_z-of_z}
use Rattle.kx_batch.specs.Batch.{Spelled, batch_of}
use Rattle.kx_broker.proofs.Adding.{has_held}
use Rattle.kx_verify.proofs.Pairs.{sequenced_pair}
use Rattle.kx_broker.proofs.parking.held_of.Goals as goal

pub unreachable-requires : goal.unreachable-requires
unreachable-requires c =
    let fits : FitsSigned w64 c.producer_id.result = search rules in
    let is = to_z-of_z w64 c.producer_id.result fits ∙ c.producer_id.ensures.value
    ∙ ap (λ (s : Spelled). s.batch.producer_id) c.of_batch-batch.ensures in
    (has_held (batch_of c.args.text.now) c.requires.sequenced).id
    (subst (λ z. z <ℤ pos 0) is c.in_default.ensures.0)

pub unreachable-requires-in_default-try_from : goal.unreachable-requires-in_default-try_from
unreachable-requires-in_default-try_from c =
    let fits : FitsSigned w16 c.producer_epoch.result = search rules in
    let is = to_z-of_z w16 c.producer_epoch.result fits ∙ c.producer_epoch.ensures.value
    ∙ ap (λ (s : Spelled). s.batch.producer_epoch) c.of_batch-batch.ensures in
    (has_held (batch_of c.args.text.now) c.requires.sequenced).epoch
    (subst (λ z. z <ℤ pos 0) is c.in_default-try_from.ensures.0)

pub returns : goal.returns
returns c =
    let b = batch_of c.args.text.now in
    let has = has_held b c.requires.sequenced in
    let id : FitsSigned w64 c.producer_id.result = search rules in
    let epoch : FitsSigned w16 c.producer_epoch.result = search rules in
    let id_is = to_z-of_z w64 c.producer_id.result id ∙ c.producer_id.ensures.value
    ∙ ap (λ (s : Spelled). s.batch.producer_id) c.of_batch-batch.ensures in
    let epoch_is = to_z-of_z w16 c.producer_epoch.result epoch ∙ c.producer_epoch.ensures.value
    ∙ ap (λ (s : Spelled). s.batch.producer_epoch) c.of_batch-batch.ensures in
    (sequenced_pair b c.in-Ok.id c.in-Ok-try_from.epoch b.base_sequence has.control
    (sym id_is ∙ c.in-Ok.ensures) (sym epoch_is ∙ c.in-Ok-try_from.ensures) refl has.first).1
