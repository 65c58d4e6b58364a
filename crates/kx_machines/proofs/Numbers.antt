-- Numbers of data partitions.
use Rattle.std.proofs.Common.{◌≡◌, ◌<◌, ◌==◌, ℕ, Bool, true, false, refl, arith}
use Rattle.std.proofs.lemmas.Bool.Decides.{Decides-eqb}
use Rattle.kx_message.specs.Ranges.{data_partitions, offsets_partition}

below_offsets : (number : ℕ) (b : Bool) → (number == offsets_partition) ≡ b
    → number < data_partitions → b ≡ false
below_offsets number true e lt =
    let same : number ≡ offsets_partition = (Decides-eqb number offsets_partition).0 e in
    absurd (omega (arith, same, lt))
below_offsets number false e lt = refl

pub is_no_offsets : (number : ℕ) → number < data_partitions
    → (number == offsets_partition) ≡ false
is_no_offsets number lt = below_offsets number (number == offsets_partition) refl lt
