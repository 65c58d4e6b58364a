-- What there is of a partition after a change of one.
use Rattle.std.proofs.Common.{◌≡◌, ◌<◌, ◌⊎◌, ℕ, Bool, true, false, cond, eqb, List, length, get_or}
use Rattle.std.proofs.Common.{set, refl, inl, inr, Some, None}
use Rattle.std.specs.Prelude.{Option}
use Rattle.std.proofs.lemmas.Bool.{cases_lt}
use Rattle.std.proofs.lemmas.Bool.Decides.{Decides-eqb}
use Rattle.std.proofs.lemmas.List.{get_or_past, get_or-set_same, get_or-set_other}
use Rattle.kx_message.specs.Ranges.{offsets_partition}
use Rattle.kx_grant.specs.Grant.{at, with_at}

pub which : (b : Bool) → (b ≡ true) ⊎ (b ≡ false)
which true = inl refl
which false = inr refl

pub same_or_not : (p q : ℕ) → (p ≡ q) ⊎ (p ≡ q → ⊥)
same_or_not p q =
    elim (which (eqb p q)) [
      | inl e ↦ inl ((Decides-eqb p q).0 e)
      | inr e ↦ inr (λ same. let t : eqb p q ≡ true = (Decides-eqb p q).1 same in absurd cc)
    ]

pub inside : {A : Type 0} (xs : List (Option A)) (p : ℕ) (x : A) → get_or xs p None ≡ Some x
    → p < length xs
inside xs p x e =
    elim (cases_lt p (length xs)) [
      | inl lt ↦ lt
      | inr le ↦ let past : get_or xs p None ≡ None = get_or_past xs p None le in absurd cc
    ]

same_under : {A : Type 0} (b : Bool) (xs : List (Option A)) (p : ℕ) (x : A) (y : Option A)
    → cond b None (get_or xs p None) ≡ Some x
    → cond b None (get_or (cond b xs (set xs p y)) p None) ≡ y
same_under true xs p x y e = absurd cc
same_under false xs p x y e = get_or-set_same xs p y None (inside xs p x e)

other_under : {A : Type 0} (a b : Bool) (xs : List (Option A)) (p q : ℕ) (y : Option A)
    → (p ≡ q → ⊥)
    → cond a None (get_or (cond b xs (set xs q y)) p None) ≡ cond a None (get_or xs p None)
other_under true b xs p q y h = refl
other_under false true xs p q y h = refl
other_under false false xs p q y h = get_or-set_other xs q p y None h

pub at_same : {A : Type 0} (xs : List (Option A)) (p : ℕ) (x : A) (y : Option A)
    → at xs p ≡ Some x → at (with_at xs p y) p ≡ y
at_same xs p x y e = same_under (eqb p offsets_partition) xs p x y e

pub at_other : {A : Type 0} (xs : List (Option A)) (p q : ℕ) (y : Option A) → (p ≡ q → ⊥)
    → at (with_at xs q y) p ≡ at xs p
at_other xs p q y h =
    other_under (eqb p offsets_partition) (eqb q offsets_partition) xs p q y h
