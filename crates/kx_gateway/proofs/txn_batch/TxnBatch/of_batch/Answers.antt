use Rattle.std.proofs.Common.{◌≡◌, ◌∙◌, List, ℕ, Some, subst, sym, ap, length, FitsSigned, w16, w32, w64, to_z, of_z}
use Rattle.std.proofs.lemmas.Int.{to_z-of_z}
use Rattle.kx_batch.specs.Batch.{SpellsBatch}
use Rattle.kx_message.specs.Values.{held_with}
use Rattle.kx_gateway.proofs.Sent.{sent_some}
use Rattle.kx_gateway.proofs.txn_batch.TxnBatch.of_batch.Goals as goal

pub invariant_of-result : goal.invariant_of-result
invariant_of-result c = (
  c.args.batch.now.batch,
  subst (λ (t : List ℕ). SpellsBatch c.args.batch.now.batch t) (sym c.known_text.ensures.value)
      c.known_text.ensures.spells,
)

pub returns-in-Some : goal.returns-in-Some
returns-in-Some c =
    let x = c.args.batch.now in
    let fits : FitsSigned w32 c.base_sequence.result = record { sfits = c.base_sequence.type_inv } in
    let fits_id : FitsSigned w64 c.producer_id.result = record { sfits = c.producer_id.type_inv } in
    let fits_epoch : FitsSigned w16 c.producer_epoch.result =
    record { sfits = c.producer_epoch.type_inv } in
    let first : to_z w32 (of_z w32 c.base_sequence.result) ≡ x.batch.base_sequence =
    simp to_z-of_z c.base_sequence.ensures.value in
    let found = simp to_z-of_z at c.in-Some.ensures in
    let held : held_with x.batch.producer_id x.batch.producer_epoch ≡ Some c.in-Some.held =
    ap (λ z. held_with z x.batch.producer_epoch) (sym c.producer_id.ensures.value)
    ∙ ap (λ z. held_with c.producer_id.result z) (sym c.producer_epoch.ensures.value) ∙ sym found in
    sent_some c.args.txn c.args.partition x c.in-Some.held (to_z w32 (of_z w32 c.base_sequence.result))
    c.len.result c.known_text.result.now
    (sym c.is_transactional.ensures ∙ c.if-not-is_transactional.false)
    held first (c.len.ensures ∙ ap length c.records.ensures.value) c.known_text.ensures.value
