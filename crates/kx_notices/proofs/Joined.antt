-- Texts that are put at the end, one after the other.
use Rattle.std.proofs.Common.{◌≡◌, ◌∙◌, ◌++◌, ℕ, List, ap, append_assoc}

-- two of them are one
pub joined : (old a b mid new : List ℕ) → mid ≡ old ++ a → new ≡ mid ++ b → new ≡ old ++ (a ++ b)
joined old a b mid new e f = f ∙ ap (λ (text : List ℕ). text ++ b) e ∙ append_assoc old a b
