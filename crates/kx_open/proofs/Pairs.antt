-- What holds of each two elements of a list, and of a list with one more between them.
use Rattle.std.proofs.Common.{◌≡◌, ◌<◌, ℕ, zero, suc, Bool, true, false, List, [], ◌∷◌, ◌++◌}
use Rattle.std.proofs.Common.{length, take, drop, cond, filter, refl, ap, ◌∙◌, sym}
use Rattle.std.proofs.Common.{subst, ◌+◌, arith}
use Rattle.std.specs.List.{All, AllPairs, AllWithin}
use Rattle.std.proofs.lemmas.List.Elements.{All-append, All-cons, All-drop, All-head}
use Rattle.std.proofs.lemmas.List.Elements.{All-tail, All-take, filter-append}
use Rattle.std.proofs.lemmas.List.Kept.{AllPairs-cons}
use Rattle.std.proofs.lemmas.List.{append-nil, get_or-drop, get_or-take, length-drop, length-take}

module _ {X : Type 0} (R : X → X → Type 0) where
  pub all_from_head : (x : X) (xs : List X) → AllPairs R (x ∷ xs) → All (R x) xs
  all_from_head x xs pairs = λ k d lt. pairs zero (suc k) d (omega arith) (omega arith)

  pub pairs_of_tail : (x : X) (xs : List X) → AllPairs R (x ∷ xs) → AllPairs R xs
  pairs_of_tail x xs pairs = λ i j d lt within. pairs (suc i) (suc j) d (omega arith) (omega arith)

  -- with one more, which R relates to those before and behind it
  pub pairs_with :
      (xs : List X) (i : ℕ) (x : X) → AllPairs R xs → All (λ y. R y x) (take i xs)
      → All (R x) (drop i xs) → AllPairs R (take i xs ++ x ∷ drop i xs)
  pairs_with xs zero x pairs before behind = AllPairs-cons R x xs behind pairs
  pairs_with [] (suc i) x pairs before behind = AllPairs-cons R x [] behind pairs
  pairs_with (y ∷ xs) (suc i) x pairs before behind =
      let related = all_from_head y xs pairs in
      AllPairs-cons R y (take i xs ++ x ∷ drop i xs)
      (All-append (R y) (take i xs) (x ∷ drop i xs) (All-take (R y) i xs related)
      (All-cons (R y) x (drop i xs) (All-head (λ z. R z x) y (take i xs) before)
      (All-drop (R y) i xs related)))
      (pairs_with xs i x (pairs_of_tail y xs pairs) (All-tail (λ z. R z x) y (take i xs) before)
      behind)

module _ {X : Type 0} (P : X → Type 0) (xs : List X) (i : ℕ) where
  pub all_before : AllWithin P xs 0 i → All P (take i xs)
  all_before all = λ k d lt.
      let before : k < i = omega (arith, length-take i xs) in
      subst P (sym (get_or-take i xs k d before)) (all k d (omega arith) before)

  pub all_behind : AllWithin P xs i (length xs) → All P (drop i xs)
  all_behind all = λ k d lt.
      subst P (sym (get_or-drop i xs k d))
      (all (i + k) d (omega arith) (omega (arith, length-drop i xs)))

module _ {X : Type 0} (p : X → Bool) where
  pub filter_keeps_all : (xs : List X) → All (λ x. p x ≡ true) xs → filter p xs ≡ xs
  filter_keeps_all [] all = refl
  filter_keeps_all (x ∷ xs) all =
      let passes : p x ≡ true = All-head (λ y. p y ≡ true) x xs all in
      ap (λ b. cond b (x ∷ filter p xs) (filter p xs)) passes
      ∙ ap (λ rest. x ∷ rest) (filter_keeps_all xs (All-tail (λ y. p y ≡ true) x xs all))

  pub filter_keeps_none : (xs : List X) → All (λ x. p x ≡ false) xs → filter p xs ≡ []
  filter_keeps_none [] all = refl
  filter_keeps_none (x ∷ xs) all =
      let fails : p x ≡ false = All-head (λ y. p y ≡ false) x xs all in
      ap (λ b. cond b (x ∷ filter p xs) (filter p xs)) fails
      ∙ filter_keeps_none xs (All-tail (λ y. p y ≡ false) x xs all)

-- a list of which a front passes and the rest fails
pub filter_front :
    {X : Type 0} (p : X → Bool) (xs ys : List X) → All (λ x. p x ≡ true) xs
    → All (λ x. p x ≡ false) ys → filter p (xs ++ ys) ≡ xs
filter_front p xs ys pass fail =
    filter-append p xs ys ∙ ap (λ l. l ++ filter p ys) (filter_keeps_all p xs pass)
    ∙ ap (λ l. xs ++ l) (filter_keeps_none p ys fail) ∙ append-nil xs

pub filter_back :
    {X : Type 0} (p : X → Bool) (xs ys : List X) → All (λ x. p x ≡ false) xs
    → All (λ x. p x ≡ true) ys → filter p (xs ++ ys) ≡ ys
filter_back p xs ys fail pass =
    filter-append p xs ys ∙ ap (λ l. l ++ filter p ys) (filter_keeps_none p xs fail)
    ∙ filter_keeps_all p ys pass
