-- A list of lists, one after the other, as far as it is added.
use Rattle.std.proofs.Common.{◌≡◌, ◌∙◌, ◌+◌, ◌<◌, ◌≤◌, ◌++◌, ◌∷◌, [], ℕ, List, ap, append_assoc}
use Rattle.std.proofs.Common.{arith, drop, get_or, length, refl, subst, suc, sym, take}
use Rattle.std.proofs.Common.{zero, zero-add}
use Rattle.std.proofs.lemmas.Grind.{flat_map-append}
use Rattle.std.proofs.lemmas.List.{append-nil, drop-append-le, drop_all, flat_map_more}
use Rattle.std.proofs.lemmas.List.{length-take-le, take_all, take_more}
use Rattle.std.proofs.lemmas.List.FromFn.{get_or-enumerate_from, length-enumerate_from}
use Rattle.std.specs.List.{flat_map}
use Rattle.kx_page.specs.Drawing.{between, numbered}

-- one more of it
pub flat_more : {X A : Type 0} (f : X → List A) (xs : List X) (i : ℕ) (x : X) (before : List A)
    → i < length xs → (before ++ flat_map f (take i xs)) ++ f (get_or xs i x)
    ≡ before ++ flat_map f (take (i + 1) xs)
flat_more {X} {A} f xs i x before within =
    let last = get_or xs i x in
    let one : flat_map f (last ∷ []) ≡ f last = append-nil (f last) in
    append_assoc before (flat_map f (take i xs)) (f last)
    ∙ ap (λ (rest : List A). before ++ rest)
    (ap (λ (end : List A). flat_map f (take i xs) ++ end) (sym one)
    ∙ sym (flat_map-append f (take i xs) (last ∷ []))
    ∙ ap (flat_map f) (sym (take_more xs i x within)))

-- all of it
pub flat_all : {X A : Type 0} (f : X → List A) (xs : List X) (i : ℕ) (before : List A)
    → length xs ≤ i → before ++ flat_map f (take i xs) ≡ before ++ flat_map f xs
flat_all {X} {A} f xs i before all =
    ap (λ (some : List X). before ++ flat_map f some) (take_all i xs all)

-- one more of some items, each with its number
pub one_more : {X A : Type 0} (f : ℕ × X → List A) (xs : List X) (first i : ℕ) (x : X)
    (before out new : List A) → first ≤ i → i < length xs → x ≡ get_or xs i x
    → out ≡ before ++ flat_map f (between first i (numbered xs)) → new ≡ out ++ f (i, x)
    → new ≡ before ++ flat_map f (between first (i + 1) (numbered xs))
one_more {X} {A} f xs first i x before out new from within is so_far more =
    let all = numbered xs in
    let read : get_or all i (i, x) ≡ (i, x) =
    subst (λ (k : ℕ). get_or all i (i, x) ≡ (k, x)) (zero-add i)
    (subst (λ (y : X). get_or all i (i, x) ≡ (0 + i, y)) (sym is)
    (get_or-enumerate_from 0 xs i (i, x) within)) in
    let there : i < length all = omega (arith, within, length-enumerate_from 0 xs) in
    let long : first ≤ length (take i all) =
    omega (arith, from, there, length-take-le i all) in
    more
    ∙ ap (λ (some : List A). some ++ f (i, x)) so_far
    ∙ flat_map_more f before (between first i all) (i, x)
    ∙ ap (λ (some : List (ℕ × X)). before ++ flat_map f some)
    (sym (drop-append-le first (take i all) ((i, x) ∷ []) long)
    ∙ ap (λ (y : ℕ × X). drop first (take i all ++ y ∷ [])) (sym read)
    ∙ ap (drop first) (sym (take_more all i (i, x) there)))

-- an item of a list
some_item : {X : Type 0} (xs : List X) (i : ℕ) → i < length xs → (x : X) × (x ≡ get_or xs i x)
some_item [] i within = absurd (omega (arith, within))
some_item (x ∷ xs) zero within = (x, refl)
some_item (x ∷ xs) (suc i) within = some_item xs i (omega (arith, within))

-- one more of what the numbers alone say
pub one_number : {X A : Type 0} (f : ℕ → List A) (xs : List X) (i : ℕ) (before out new : List A)
    → i < length xs
    → out ≡ before ++ flat_map (λ (x : ℕ × X). f x.0) (between 0 i (numbered xs)) → new ≡ out ++ f i
    → new ≡ before ++ flat_map (λ (x : ℕ × X). f x.0) (between 0 (i + 1) (numbered xs))
one_number {X} {A} f xs i before out new within so_far more =
    let item = some_item xs i within in
    one_more (λ (x : ℕ × X). f x.0) xs 0 i item.0 before out new (omega arith) within item.1 so_far
    more

-- none of them
pub none_yet : {X A : Type 0} (f : ℕ × X → List A) (xs : List X) (i : ℕ) (before : List A)
    → i ≤ length xs → before ≡ before ++ flat_map f (between i i (numbered xs))
none_yet {X} {A} f xs i before within =
    let all = numbered xs in
    let short : length (take i all) ≤ i =
    omega (arith, within, length-enumerate_from 0 xs, length-take-le i all) in
    sym (ap (λ (some : List (ℕ × X)). before ++ flat_map f some) (drop_all i (take i all) short)
    ∙ append-nil before)

-- all of them
pub all_done : {X A : Type 0} (f : ℕ × X → List A) (xs : List X) (i : ℕ) (before out : List A)
    → length xs ≤ i → out ≡ before ++ flat_map f (between 0 i (numbered xs))
    → out ≡ before ++ flat_map f (numbered xs)
all_done {X} {A} f xs i before out past so_far =
    so_far ∙ flat_all f (numbered xs) i before
    (omega (arith, past, length-enumerate_from 0 xs))

-- one more of some items
pub one_item : {X A : Type 0} (f : X → List A) (xs : List X) (i : ℕ) (x : X)
    (before out new : List A) → i < length xs → x ≡ get_or xs i x
    → out ≡ before ++ flat_map f (take i xs) → new ≡ out ++ f x
    → new ≡ before ++ flat_map f (take (i + 1) xs)
one_item {X} {A} f xs i x before out new within is so_far more =
    more
    ∙ ap (λ (some : List A). some ++ f x) so_far
    ∙ ap (λ (y : X). (before ++ flat_map f (take i xs)) ++ f y) is
    ∙ flat_more f xs i x before within
