-- What filters and tests do to lists, and numbers to one another.
use Rattle.std.proofs.Common.{◌≡◌, ℕ, ◌+◌, ◌==◌, Bool, true, false, not, ◌&&◌, ◌||◌, cond, List, []}
use Rattle.std.proofs.Common.{◌∷◌, ◌++◌, filter, length, refl, ap, ◌∙◌, arith}
use Rattle.std.proofs.Common.{flat_map, length-append}
use Rattle.std.specs.List.{list_any}
use Rattle.std.proofs.Math.Bool.{or-false}
use Rattle.std.proofs.lemmas.Bool.Decides.{nat_tests}
use Rattle.std.proofs.lemmas.List.Elements.{filter-append}
use Rattle.std.proofs.lemmas.List.Folds.{list_any-append}

pub eqb_swap : (m n : ℕ) → (m == n) ≡ (n == m)
eqb_swap m n = at (m == n) (n == m) refl refl
  where
    at : (a b : Bool) → (m == n) ≡ a → (n == m) ≡ b → a ≡ b
    at true true e f = refl
    at true false e f = absurd (grind (arith, nat_tests))
    at false true e f = absurd (grind (arith, nat_tests))
    at false false e f = refl

module _ {A : Type 0} where
  pub any-push : (test : A → Bool) (items : List A) (item : A)
      → list_any test (items ++ item ∷ []) ≡ (list_any test items || test item)
  any-push test items item =
      list_any-append test items (item ∷ [])
      ∙ ap (λ b. list_any test items || b) (or-false (test item))

  pub filter_true : (items : List A) → filter (λ x. true) items ≡ items
  filter_true [] = refl
  filter_true (x ∷ items) = ap (λ l. x ∷ l) (filter_true items)

  -- a test of one item or none
  pub filter_one : (test : A → Bool) (b : Bool) (item : A)
      → filter test (cond b (item ∷ []) []) ≡ cond (b && test item) (item ∷ []) []
  filter_one test true item = refl
  filter_one test false item = refl

  pub filter_cons : (test : A → Bool) (item : A) (items : List A)
      → filter test (item ∷ items) ≡ cond (test item) (item ∷ []) [] ++ filter test items
  filter_cons test item items = by (test item)
    where
      by : (b : Bool) → cond b (item ∷ filter test items) (filter test items)
          ≡ cond b (item ∷ []) [] ++ filter test items
      by true = refl
      by false = refl

module _ {A B : Type 0} where
  pub filter-flat_map : (test : B → Bool) (f : A → List B) (xs : List A)
      → filter test (flat_map f xs) ≡ flat_map (λ x. filter test (f x)) xs
  filter-flat_map test f [] = refl
  filter-flat_map test f (x ∷ xs) =
      filter-append test (f x) (flat_map f xs)
      ∙ ap (λ l. filter test (f x) ++ l) (filter-flat_map test f xs)

  -- those of the items that pass, and those of the others
  pub length_parts : (f : A → List B) (test other : A → Bool) → ((x : A) → other x ≡ not (test x))
      → (xs : List A) → length (flat_map f (filter test xs)) + length (flat_map f (filter other xs))
      ≡ length (flat_map f xs)
  length_parts f test other is [] = refl
  length_parts f test other is (x ∷ xs) =
      by (test x) (other x) (is x) (length_parts f test other is xs)
    where
      passing : List A
      passing = filter test xs

      failing : List A
      failing = filter other xs

      by : (b c : Bool) → c ≡ not b
          → length (flat_map f passing) + length (flat_map f failing) ≡ length (flat_map f xs)
          → length (flat_map f (cond b (x ∷ passing) passing))
          + length (flat_map f (cond c (x ∷ failing) failing))
          ≡ length (f x ++ flat_map f xs)
      by true false e rest = omega (
        arith,
        rest,
        length-append (f x) (flat_map f passing),
        length-append (f x) (flat_map f xs),
      )
      by false true e rest = omega (
        arith,
        rest,
        length-append (f x) (flat_map f failing),
        length-append (f x) (flat_map f xs),
      )
      by true true e rest = absurd (cc)
      by false false e rest = absurd (cc)
