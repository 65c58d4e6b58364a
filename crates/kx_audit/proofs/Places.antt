-- Elements of lists by their places.
use Rattle.std.proofs.Common.{◌≡◌, ◌<◌, ◌+◌, ◌⊎◌, ◌++◌, ℕ, zero, suc, List, [], ◌∷◌, take}
use Rattle.std.proofs.Common.{map, Some, inl, inr, refl, sym, ap, ◌∙◌, ⊎_elim, arith, subst}
use Rattle.std.specs.Prelude.{slice_get, option_map}
use Rattle.std.proofs.lemmas.Bool.{cases_eq}
use Rattle.std.proofs.lemmas.Option.{same_Some, slice_get-map}

pub same_at : {A : Type 0} (xs : List A) (j k : ℕ) (x y : A) → j ≡ k → slice_get xs j ≡ Some x
    → slice_get xs k ≡ Some y → x ≡ y
same_at xs j k x y e p q = same_Some x y (sym p ∙ (ap (λ n. slice_get xs n) e ∙ q))

-- what holds at the first places, and at the next
pub more_places : {A : Type 0} (xs : List A) (n : ℕ) (x : A) (P : ℕ → A → Type 0)
    → slice_get xs n ≡ Some x
    → ((k : ℕ) (y : A) → k < n → slice_get xs k ≡ Some y → P k y) → P n x
    → (k : ℕ) (y : A) → k < n + 1 → slice_get xs k ≡ Some y → P k y
more_places {A} xs n x P there before now k y lt at =
    ⊎_elim
    (λ e. subst (λ (m : ℕ). P m y) (sym e)
    (subst (λ (z : A). P n z) (same_at xs n k x y (sym e) there at) now))
    (λ ne. before k y (omega (arith, lt, ne)) at)
    (cases_eq k n)

pub in_take : {A : Type 0} (xs : List A) (n k : ℕ) (x : A) → slice_get (take n xs) k ≡ Some x
    → (k < n) × (slice_get xs k ≡ Some x)
in_take [] zero k x e = absurd cc
in_take [] (suc n) k x e = absurd cc
in_take (y ∷ xs) zero k x e = absurd cc
in_take (y ∷ xs) (suc n) zero x e = (omega arith, e)
in_take (y ∷ xs) (suc n) (suc k) x e =
    let rest = in_take xs n k x e in (omega (arith, rest.0), rest.1)

pub to_take : {A : Type 0} (xs : List A) (n k : ℕ) (x : A) → k < n → slice_get xs k ≡ Some x
    → slice_get (take n xs) k ≡ Some x
to_take [] n k x lt e = absurd cc
to_take (y ∷ xs) zero k x lt e = absurd (omega (arith, lt))
to_take (y ∷ xs) (suc n) zero x lt e = e
to_take (y ∷ xs) (suc n) (suc k) x lt e = to_take xs n k x (omega (arith, lt)) e

-- one of those before, or the last one
pub get_more : {A : Type 0} (xs : List A) (y : A) (k : ℕ) (x : A)
    → slice_get (xs ++ y ∷ []) k ≡ Some x → (slice_get xs k ≡ Some x) ⊎ (y ≡ x)
get_more [] y zero x e = inr (same_Some y x e)
get_more [] y (suc k) x e = absurd cc
get_more (z ∷ xs) y zero x e = inl e
get_more (z ∷ xs) y (suc k) x e = get_more xs y k x e

-- an element of a list that is mapped
pub to_map : {A B : Type 0} (f : A → B) (xs : List A) (k : ℕ) (x : A) → slice_get xs k ≡ Some x
    → slice_get (map f xs) k ≡ Some (f x)
to_map f xs k x at = slice_get-map f xs k ∙ ap (option_map f) at

pub from_map : {A B : Type 0} (f : A → B) (xs : List A) (k : ℕ) (y : B)
    → slice_get (map f xs) k ≡ Some y → (x : A) × (slice_get xs k ≡ Some x) × (f x ≡ y)
from_map f [] k y e = absurd cc
from_map {A} {B} f (x ∷ xs) zero y e = (x, refl, same_Some (f x) y e)
from_map f (x ∷ xs) (suc k) y e = from_map f xs k y e
