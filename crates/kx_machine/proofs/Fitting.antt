-- Offsets that fit are a command that does.
use Rattle.std.proofs.Common.{◌≡◌, ◌∙◌, ◌+◌, ◌<◌, ℕ, List, [], ◌∷◌, All, ap, subst, sym, take}
use Rattle.std.proofs.Common.{arith, get_or, length, zero, suc}
use Rattle.std.proofs.Math.Seq.{take-suc}
use Rattle.std.proofs.lemmas.List.Elements.{All-append}
use Rattle.kx_machine.specs.Meaning.{command_of_offsets}
use Rattle.kx_message.specs.Message.{IsOffset}
use Rattle.kx_message.specs.Ranges.{IsOffsetCount}
use Rattle.kx_message.specs.declared.payload.PartitionOffset.{PartitionOffset}
use Rattle.kx_model.specs.World.{IsCommand}

pub offsets_fit : (offsets : List PartitionOffset) → All IsOffset offsets
    → IsOffsetCount (length offsets) → IsCommand (command_of_offsets offsets)
offsets_fit [] each count = tt
offsets_fit (offset ∷ offsets) each count = (each, count)

only : {X : Type 0} (P : X → Type 0) (x : X) → P x → All P (x ∷ [])
only P x p zero d lt = p
only P x p (suc k) d lt = absurd (omega arith)

-- all so far, and the next one
pub all_taken : {X : Type 0} (P : X → Type 0) (xs : List X) (i : ℕ) (x : X) → All P (take i xs)
    → i < length xs → x ≡ get_or xs i x → P x → All P (take (i + 1) xs)
all_taken P xs i x all lt is p =
    let at : i + 1 ≡ suc i = omega arith in
    subst (All P) (sym (ap (λ (n : ℕ). take n xs) at ∙ take-suc xs i x lt))
    (All-append P (take i xs) (get_or xs i x ∷ []) all (only P (get_or xs i x) (subst P is p)))
