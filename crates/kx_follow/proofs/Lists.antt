-- Elements of lists by their places.
use Rattle.std.proofs.Common.{◌≡◌, ◌≢◌, ◌⊎◌, ℕ, zero, suc, List, [], ◌∷◌, Some, refl, sym, ap, ◌∙◌}
use Rattle.std.proofs.Common.{inl, inr, ⊎_elim, map, length, ◌++◌, append-nil, arith}
use Rattle.std.specs.Prelude.{slice_get, slice_set}
use Rattle.std.proofs.lemmas.List.{append_assoc}
use Rattle.std.proofs.lemmas.Option.{same_Some}

-- an element of a list of which one was changed: that one, or another that stayed
pub get_set : {A : Type 0} (xs : List A) (k : ℕ) (y : A) (j : ℕ) (q : A)
    → slice_get (slice_set xs k y) j ≡ Some q
    → ((j ≡ k) × (y ≡ q)) ⊎ ((j ≢ k) × (slice_get xs j ≡ Some q))
get_set [] k y j q e = absurd cc
get_set (x ∷ xs) zero y zero q e = inl (refl, cc)
get_set (x ∷ xs) zero y (suc j) q e = inr ((λ h. omega arith), e)
get_set (x ∷ xs) (suc k) y zero q e = inr ((λ h. omega arith), e)
get_set (x ∷ xs) (suc k) y (suc j) q e =
    ⊎_elim (λ t. inl (ap suc t.0, t.1))
    (λ t. let n = t.0 in inr ((λ h. n (omega arith)), t.1)) (get_set xs k y j q e)

-- what is mapped alike is the same after an element was changed
pub map_set : {A B : Type 0} (f : A → B) (xs : List A) (k : ℕ) (x y : A)
    → slice_get xs k ≡ Some x → f y ≡ f x → map f (slice_set xs k y) ≡ map f xs
map_set f [] k x y at e = refl
map_set {A} {B} f (z ∷ xs) zero x y at e =
    let same : z ≡ x = same_Some z x at in
    ap (λ (b : B). b ∷ map f xs) (e ∙ ap f (sym same))
map_set {A} {B} f (z ∷ xs) (suc k) x y at e =
    ap (λ (l : List B). f z ∷ l) (map_set f xs k x y at e)

-- if an element was, the changed one is, or it is still there
pub set_there : {A : Type 0} (xs : List A) (k : ℕ) (y : A) (j : ℕ) (x : A)
    → slice_get xs j ≡ Some x
    → ((j ≡ k) × (slice_get (slice_set xs k y) j ≡ Some y)) ⊎ (slice_get (slice_set xs k y) j ≡ Some x)
set_there [] k y j x e = absurd cc
set_there (z ∷ xs) zero y zero x e = inl (refl, refl)
set_there (z ∷ xs) zero y (suc j) x e = inr e
set_there (z ∷ xs) (suc k) y zero x e = inr e
set_there (z ∷ xs) (suc k) y (suc j) x e =
    ⊎_elim (λ t. inl (ap suc t.0, t.1)) (λ t. inr t) (set_there xs k y j x e)

-- one of those before, or the last one
pub get_push : {A : Type 0} (xs : List A) (y : A) (k : ℕ) (x : A)
    → slice_get (xs ++ y ∷ []) k ≡ Some x
    → (slice_get xs k ≡ Some x) ⊎ ((k ≡ length xs) × (y ≡ x))
get_push [] y zero x e = inr (refl, same_Some y x e)
get_push [] y (suc k) x e = absurd cc
get_push (z ∷ xs) y zero x e = inl e
get_push (z ∷ xs) y (suc k) x e =
    ⊎_elim (λ t. inl t) (λ t. inr (ap suc t.0, t.1)) (get_push xs y k x e)

-- one of the first, or one of those after them
pub get_both : {A : Type 0} (xs ys : List A) (k : ℕ) (x : A) → slice_get (xs ++ ys) k ≡ Some x
    → (slice_get xs k ≡ Some x) ⊎ ((j : ℕ) × (slice_get ys j ≡ Some x))
get_both [] ys k x e = inr (k, e)
get_both (z ∷ xs) ys zero x e = inl e
get_both (z ∷ xs) ys (suc k) x e = get_both xs ys k x e

-- if an element was, the changed one is
pub set_here : {A : Type 0} (xs : List A) (k : ℕ) (y x : A) → slice_get xs k ≡ Some x
    → slice_get (slice_set xs k y) k ≡ Some y
set_here [] k y x e = absurd cc
set_here (z ∷ xs) zero y x e = refl
set_here (z ∷ xs) (suc k) y x e = set_here xs k y x e

-- an element that is put in its own place
pub set_same : {A : Type 0} (xs : List A) (k : ℕ) (x : A) → slice_get xs k ≡ Some x
    → slice_set xs k x ≡ xs
set_same [] k x e = absurd cc
set_same {A} (z ∷ xs) zero x e = ap (λ (y : A). y ∷ xs) (sym (same_Some z x e))
set_same {A} (z ∷ xs) (suc k) x e = ap (λ (l : List A). z ∷ l) (set_same xs k x e)

------ values that are made of the front of a list

pub moved_on : {X Y : Type 0} (f : X → Y) (ys new : List Y) (xs rest all : List X) (x : X) (y : Y)
    → ys ++ map f xs ≡ map f all → xs ≡ x ∷ rest → y ≡ f x → new ≡ ys ++ y ∷ []
    → new ++ map f rest ≡ map f all
moved_on f ys new xs rest all x y before is made pushed =
    ap (λ (l : List _). l ++ map f rest) pushed ∙ append_assoc ys (y ∷ []) (map f rest)
    ∙ ap (λ z. ys ++ z ∷ map f rest) made ∙ ap (λ (l : List _). ys ++ map f l) (sym is) ∙ before

pub moved_all : {X Y : Type 0} (f : X → Y) (ys : List Y) (xs all : List X)
    → ys ++ map f xs ≡ map f all → xs ≡ [] → ys ≡ map f all
moved_all f ys xs all before is =
    sym (append-nil ys) ∙ ap (λ (l : List _). ys ++ map f l) (sym is) ∙ before
