-- A list of lists, one after the other, as far as it is added.
use Rattle.std.proofs.Common.{◌≡◌, ◌∙◌, ◌+◌, ◌<◌, ◌≤◌, ◌++◌, ◌∷◌, [], ℕ, List, ap, append_assoc}
use Rattle.std.proofs.Common.{get_or, length, sym, take}
use Rattle.std.proofs.lemmas.Grind.{flat_map-append}
use Rattle.std.proofs.lemmas.List.{append-nil, take_all, take_more}
use Rattle.std.specs.List.{flat_map}

-- one more of it
pub flat_more : {X A : Type 0} (f : X → List A) (xs : List X) (i : ℕ) (x : X) (before : List A)
    → i < length xs → (before ++ flat_map f (take i xs)) ++ f (get_or xs i x)
    ≡ before ++ flat_map f (take (i + 1) xs)
flat_more {X} {A} f xs i x before within =
    let last = get_or xs i x in
    let one : flat_map f (last ∷ []) ≡ f last = append-nil (f last) in
    append_assoc before (flat_map f (take i xs)) (f last)
    ∙ ap (λ (rest : List A). before ++ rest)
    (ap (λ (end : List A). flat_map f (take i xs) ++ end) (sym one)
    ∙ sym (flat_map-append f (take i xs) (last ∷ []))
    ∙ ap (flat_map f) (sym (take_more xs i x within)))

-- all of it
pub flat_all : {X A : Type 0} (f : X → List A) (xs : List X) (i : ℕ) (before : List A)
    → length xs ≤ i → before ++ flat_map f (take i xs) ≡ before ++ flat_map f xs
flat_all {X} {A} f xs i before all =
    ap (λ (some : List X). before ++ flat_map f some) (take_all i xs all)
