-- A data partition that is named is there.
use Rattle.std.proofs.Common.{◌≡◌, ◌<◌, ◌==◌, ◌⊎◌, ℕ, Bool, true, false, cond, None, refl}
use Rattle.std.proofs.Common.{Result, Ok, Err, MatchResult, length, arith, inl, inr, sym, ap}
use Rattle.std.proofs.Common.{◌∙◌}
use Rattle.std.specs.Prelude.{slice_get}
use Rattle.std.proofs.lemmas.Bool.Decides.{Decides-eqb, Decides-ltb}
use Rattle.kx_core.proofs.Standing.{past_none}
use Rattle.kx_message.specs.Ranges.{offsets_partition}
use Rattle.kx_model.specs.Page.{Fetched}
use Rattle.kx_model.specs.World.{World, data_partition_at}
use Rattle.kx_partition.specs.declared.fault.FetchFault.{FetchFault}
use Rattle.kx_script.specs.Session.{has_partition}

is_there : (w : World) (number : ℕ) (b : Bool) → (number == offsets_partition) ≡ b
    → length w.partitions < offsets_partition → number < length w.partitions
    → data_partition_at w number ≡ None → ⊥
is_there w number true e few lt none =
    let same : number ≡ offsets_partition = (Decides-eqb number offsets_partition).0 e in
    absurd (omega (arith, same, few, lt))
is_there w number false e few lt none =
    let one : data_partition_at w number ≡ slice_get w.partitions number =
    ap (λ (b : Bool). cond b None (slice_get w.partitions number)) e in
    absurd (omega (arith, past_none w.partitions number (sym one ∙ none), lt))

-- so a fetch of it isn't refused for want of the partition
pub refusal : (P : Fetched → Type 0) (Q R : FetchFault → Type 0) (w : World) (number : ℕ)
    (r : Result Fetched FetchFault) → length w.partitions < offsets_partition
    → has_partition w number ≡ true
    → MatchResult r P (λ f. Q f ⊎ ((data_partition_at w number ≡ None) × R f))
    → MatchResult r P Q
refusal P Q R w number (Ok page) few there h = h
refusal P Q R w number (Err f) few there (inl h) = h
refusal P Q R w number (Err f) few there (inr h) =
    absurd (is_there w number (number == offsets_partition) refl few
    ((Decides-ltb number (length w.partitions)).0 there) h.0)
