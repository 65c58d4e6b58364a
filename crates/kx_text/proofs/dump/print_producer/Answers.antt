use Rattle.std.proofs.Common.{◌≡◌, ◌∙◌, ◌++◌, ℕ, ℤ, List, append_assoc, subst, w64}
use Rattle.std.specs.Int.{w16, w32}
use Rattle.std.specs.Prelude.{OnOk, codes}
use Rattle.std.specs.Fmt.{signed_decimal}
use Rattle.std.specs.Io.KnownBytes.{Appends}
use Rattle.std.proofs.lemmas.Int.{to_z-of_z}
use Rattle.kx_batch.specs.Batch.{Batch}
use Rattle.kx_text.specs.Dump.{producer_text}
use Rattle.kx_text.proofs.dump.print_producer.Goals as goal

text_is : (batch : Batch) (id epoch sequence : ℤ) → id ≡ batch.producer_id
    → epoch ≡ batch.producer_epoch → sequence ≡ batch.base_sequence
    → signed_decimal id ++ (codes " " ++ (signed_decimal epoch
    ++ (codes " " ++ signed_decimal sequence))) ≡ producer_text batch
text_is batch id epoch sequence id_is epoch_is sequence_is =
    rw (id_is, epoch_is, sequence_is) (simp append_assoc)

pub returns : goal.returns
returns g c =
    let id = c.producer_id-id in
    let epoch = c.producer_epoch-epoch in
    let sequence = c.base_sequence-sequence in
    let old = g.W.Write.contents c.args.line.now in
    let new = g.W.Write.contents c.write.new.self in
    subst (λ (t : List ℕ). OnOk c.write.result (Appends old new t))
    (text_is c.args.batch.now.batch _ _ _
    (to_z-of_z w64 id.result (record { sfits = id.type_inv }) ∙ id.ensures.value)
    (to_z-of_z w16 epoch.result (record { sfits = epoch.type_inv }) ∙ epoch.ensures.value)
    (to_z-of_z w32 sequence.result (record { sfits = sequence.type_inv }) ∙ sequence.ensures.value))
    c.write.ensures.bytes
