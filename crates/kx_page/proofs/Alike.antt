-- The markup of what differs in values alone.
use Rattle.std.proofs.Common.{◌≡◌, ◌∙◌, ◌++◌, ◌∷◌, [], ℕ, ◌+◌, Bool, true, false, List, ap, cond}
use Rattle.std.proofs.Common.{drop, length, map, refl, suc, sym, take, zero}
use Rattle.std.proofs.lemmas.List.Elements.{filter-append}
use Rattle.std.specs.List.{after_first, before_first, enumerate_from, flat_map}
use Rattle.kx_page.specs.Alike.{AreAlike}
use Rattle.kx_page.specs.Pieces.{escaped, filled, is_hole, is_markup, markup_of}
use Rattle.kx_page.proofs.Markup.{silent}

-- the markup of a template, by the markup of its texts
pub woven : List ℕ → List (List ℕ) → List ℕ
woven template [] = markup_of template
woven template (text ∷ texts) =
    markup_of (before_first is_hole template) ++ text ++ woven (after_first is_hole template) texts

pub markup_filled : (template : List ℕ) (texts : List (List ℕ))
    → markup_of (filled template texts) ≡ woven template (map markup_of texts)
unfolding filled woven
markup_filled template [] = refl
markup_filled template (text ∷ texts) =
    let before = before_first is_hole template in
    let rest = filled (after_first is_hole template) texts in
    filter-append is_markup (before ++ text) rest
    ∙ ap (λ (all : List ℕ). all ++ markup_of rest) (filter-append is_markup before text)
    ∙ ap (λ (all : List ℕ). (markup_of before ++ markup_of text) ++ all)
    (markup_filled (after_first is_hole template) texts)

-- two texts after one another
pub both : (a b c d : List ℕ) → markup_of a ≡ markup_of b → markup_of c ≡ markup_of d
    → markup_of (a ++ c) ≡ markup_of (b ++ d)
both a b c d e f =
    filter-append is_markup a c
    ∙ ap (λ (all : List ℕ). all ++ markup_of c) e
    ∙ ap (λ (all : List ℕ). markup_of b ++ all) f
    ∙ sym (filter-append is_markup b d)

pub if_alike : (test : Bool) (a b : List ℕ) → markup_of a ≡ markup_of b
    → markup_of (cond test a []) ≡ markup_of (cond test b [])
if_alike true a b e = e
if_alike false a b e = refl

pub first_value : (t v w x y : List ℕ)
    → markup_of (filled t (escaped v ∷ x ∷ y ∷ [])) ≡ markup_of (filled t (escaped w ∷ x ∷ y ∷ []))
first_value t v w x y = simp (markup_filled, silent)

pub last_value : (t x v w : List ℕ)
    → markup_of (filled t (x ∷ escaped v ∷ [])) ≡ markup_of (filled t (x ∷ escaped w ∷ []))
last_value t x v w = simp (markup_filled, silent)

pub third_value : (t x y v w : List ℕ)
    → markup_of (filled t (x ∷ y ∷ escaped v ∷ [])) ≡ markup_of (filled t (x ∷ y ∷ escaped w ∷ []))
third_value t x y v w = simp (markup_filled, silent)

pub two_values : (t x v w v2 w2 : List ℕ)
    → markup_of (filled t (x ∷ escaped v ∷ escaped v2 ∷ []))
    ≡ markup_of (filled t (x ∷ escaped w ∷ escaped w2 ∷ []))
two_values t x v w v2 w2 = simp (markup_filled, silent)

pub three_values : (t x y u v w u2 v2 w2 : List ℕ)
    → markup_of (filled t (x ∷ y ∷ escaped u ∷ escaped v ∷ escaped w ∷ []))
    ≡ markup_of (filled t (x ∷ y ∷ escaped u2 ∷ escaped v2 ∷ escaped w2 ∷ []))
three_values t x y u v w u2 v2 w2 = simp (markup_filled, silent)

pub fifth_and_eighth : (t a b c d v x y w v2 w2 : List ℕ)
    → markup_of (filled t (a ∷ b ∷ c ∷ d ∷ escaped v ∷ x ∷ y ∷ escaped w ∷ []))
    ≡ markup_of (filled t (a ∷ b ∷ c ∷ d ∷ escaped v2 ∷ x ∷ y ∷ escaped w2 ∷ []))
fifth_and_eighth t a b c d v x y w v2 w2 = simp (markup_filled, silent)

pub titles : (t v w a b c d e : List ℕ)
    → markup_of (filled t (escaped v ∷ a ∷ b ∷ escaped v ∷ c ∷ d ∷ e ∷ []))
    ≡ markup_of (filled t (escaped w ∷ a ∷ b ∷ escaped w ∷ c ∷ d ∷ e ∷ []))
titles t v w a b c d e = simp (markup_filled, silent)

pub first_of_five : (t v w a b c d : List ℕ)
    → markup_of (filled t (escaped v ∷ a ∷ b ∷ c ∷ d ∷ []))
    ≡ markup_of (filled t (escaped w ∷ a ∷ b ∷ c ∷ d ∷ []))
first_of_five t v w a b c d = simp (markup_filled, silent)

-- lists of what is alike
pub alike_flat : {X : Type 0} (IsLike : X → X → Type 0) (f g : X → List ℕ)
    → ((x y : X) → IsLike x y → markup_of (f x) ≡ markup_of (g y)) → (xs ys : List X)
    → AreAlike IsLike xs ys → markup_of (flat_map f xs) ≡ markup_of (flat_map g ys)
alike_flat IsLike f g each [] [] are = refl
alike_flat IsLike f g each [] (y ∷ ys) are = absurd are
alike_flat IsLike f g each (x ∷ xs) [] are = absurd are
alike_flat IsLike f g each (x ∷ xs) (y ∷ ys) are =
    both (f x) (g y) (flat_map f xs) (flat_map g ys) (each x y are.0)
    (alike_flat IsLike f g each xs ys are.1)

pub as_long : {X : Type 0} (IsLike : X → X → Type 0) (xs ys : List X) → AreAlike IsLike xs ys
    → length xs ≡ length ys
as_long IsLike [] [] are = refl
as_long IsLike [] (y ∷ ys) are = absurd are
as_long IsLike (x ∷ xs) [] are = absurd are
as_long IsLike (x ∷ xs) (y ∷ ys) are = ap suc (as_long IsLike xs ys are.1)

pub alike_take : {X : Type 0} (IsLike : X → X → Type 0) (n : ℕ) (xs ys : List X)
    → AreAlike IsLike xs ys → AreAlike IsLike (take n xs) (take n ys)
alike_take IsLike zero xs ys are = tt
alike_take IsLike (suc n) [] [] are = tt
alike_take IsLike (suc n) [] (y ∷ ys) are = absurd are
alike_take IsLike (suc n) (x ∷ xs) [] are = absurd are
alike_take IsLike (suc n) (x ∷ xs) (y ∷ ys) are = (are.0, alike_take IsLike n xs ys are.1)

pub alike_drop : {X : Type 0} (IsLike : X → X → Type 0) (n : ℕ) (xs ys : List X)
    → AreAlike IsLike xs ys → AreAlike IsLike (drop n xs) (drop n ys)
alike_drop IsLike zero xs ys are = are
alike_drop IsLike (suc n) [] [] are = tt
alike_drop IsLike (suc n) [] (y ∷ ys) are = absurd are
alike_drop IsLike (suc n) (x ∷ xs) [] are = absurd are
alike_drop IsLike (suc n) (x ∷ xs) (y ∷ ys) are = alike_drop IsLike n xs ys are.1

-- each with its number
abbrev pub Numbered : {X : Type 0} → (X → X → Type 0) → ℕ × X → ℕ × X → Type 0
Numbered IsLike p q = (p.0 ≡ q.0) × IsLike p.1 q.1

pub alike_numbered : {X : Type 0} (IsLike : X → X → Type 0) (n : ℕ) (xs ys : List X)
    → AreAlike IsLike xs ys
    → AreAlike (Numbered IsLike) (enumerate_from n xs) (enumerate_from n ys)
alike_numbered IsLike n [] [] are = tt
alike_numbered IsLike n [] (y ∷ ys) are = absurd are
alike_numbered IsLike n (x ∷ xs) [] are = absurd are
alike_numbered IsLike n (x ∷ xs) (y ∷ ys) are =
    ((refl, are.0), alike_numbered IsLike (n + 1) xs ys are.1)
