-- What is found in a list by its number, once something in it has changed or come behind it.
use Rattle.std.proofs.Common.{◌≡◌, ◌≢◌, ◌<◌, ◌≤◌, ◌==◌, ℕ, Bool, true, false, cond, List, []}
use Rattle.std.proofs.Common.{◌∷◌, ◌++◌, map, refl, sym, ap, ◌∙◌, arith, nat_lt}
use Rattle.std.proofs.Common.{Option, Some, None}
use Rattle.std.specs.Prelude.{find}
use Rattle.std.specs.List.{list_all}
use Rattle.std.proofs.lemmas.Bool.{and_from}
use Rattle.std.proofs.lemmas.Bool.Decides.{Decides-eqb, Decides-ltb}

false_true : false ≡ true → ⊥
false_true e = absurd cc

pub equal : (m n : ℕ) → m ≡ n → (m == n) ≡ true
equal m n e = (Decides-eqb m n).1 e

pub differ : (m n : ℕ) → m ≢ n → (m == n) ≡ false
differ m n apart = by (m == n) refl
  where
    by : (b : Bool) → (m == n) ≡ b → b ≡ false
    by true e = absurd (apart ((Decides-eqb m n).0 e))
    by false e = refl

-- elements with a number each
module _ {A : Type 0} (number : A → ℕ) where
  abbrev pub look : ℕ → List A → Option A
  look n xs = find (λ x. number x == n) xs

  -- this one, in the place of those of its number
  abbrev pub put : A → List A → List A
  put y xs = map (λ x. cond (number x == number y) y x) xs

  -- each number is below this one
  abbrev pub AreBelow : ℕ → List A → Type 0
  AreBelow n [] = Unit {0}
  AreBelow n (x ∷ xs) = (number x < n) × AreBelow n xs

  passes : (n : ℕ) (x : A) (xs : List A) → number x ≢ n → look n (x ∷ xs) ≡ look n xs
  passes n x xs apart = ap (λ b. cond b (Some x) (look n xs)) (differ (number x) n apart)

  here : (n : ℕ) (x : A) (xs : List A) → number x ≡ n → look n (x ∷ xs) ≡ Some x
  here n x xs same = ap (λ b. cond b (Some x) (look n xs)) (equal (number x) n same)

  pub found_number : (n : ℕ) (xs : List A) (x : A) → look n xs ≡ Some x → number x ≡ n
  found_number n [] x is = absurd cc
  found_number n (y ∷ xs) x is = by (number y == n) refl (found_number n xs x)
    where
      by : (b : Bool) → (number y == n) ≡ b → (look n xs ≡ Some x → number x ≡ n)
          → number x ≡ n
      by true e rest =
          let same : number y ≡ n = (Decides-eqb (number y) n).0 e in
          let one : y ≡ x = let both = sym (here n y xs same) ∙ is in cc in
          ap number (sym one) ∙ same
      by false e rest = rest (sym (ap (λ b. cond b (Some y) (look n xs)) e) ∙ is)

  ------ one in the place of another

  pub look_other : (n : ℕ) (y : A) (xs : List A) → number y ≢ n
      → look n (put y xs) ≡ look n xs
  look_other n y [] apart = refl
  look_other n y (x ∷ xs) apart = by (number x == number y) refl (look_other n y xs apart)
    where
      by : (b : Bool) → (number x == number y) ≡ b → look n (put y xs) ≡ look n xs
          → look n (put y (x ∷ xs)) ≡ look n (x ∷ xs)
      by true e rest =
          let same : number x ≡ number y = (Decides-eqb (number x) (number y)).0 e in
          ap (λ b. look n (cond b y x ∷ put y xs)) e
          ∙ passes n y (put y xs) apart
          ∙ rest
          ∙ sym (passes n x xs (λ h. apart (sym same ∙ h)))
      by false e rest =
          ap (λ b. look n (cond b y x ∷ put y xs)) e
          ∙ ap (cond (number x == n) (Some x)) rest

  pub look_put : (n : ℕ) (y x : A) (xs : List A) → number y ≡ n → look n xs ≡ Some x
      → look n (put y xs) ≡ Some y
  look_put n y x [] same is = absurd cc
  look_put n y x (z ∷ xs) same is = by (number z == n) refl (look_put n y x xs same)
    where
      by : (b : Bool) → (number z == n) ≡ b → (look n xs ≡ Some x → look n (put y xs) ≡ Some y)
          → look n (put y (z ∷ xs)) ≡ Some y
      by true e rest =
          let own : number z ≡ number y = (Decides-eqb (number z) n).0 e ∙ sym same in
          ap (λ b. look n (cond b y z ∷ put y xs)) (equal (number z) (number y) own)
          ∙ here n y (put y xs) same
      by false e rest =
          let apart : number z ≢ n = λ h. false_true (sym e ∙ equal (number z) n h) in
          let own : (number z == number y) ≡ false =
          differ (number z) (number y) (λ h. apart (h ∙ same)) in
          ap (λ b. look n (cond b y z ∷ put y xs)) own
          ∙ passes n z (put y xs) apart
          ∙ rest (sym (passes n z xs apart) ∙ is)

  ------ one more behind them

  pub look_push_other : (n : ℕ) (xs : List A) (y : A) → number y ≢ n
      → look n (xs ++ y ∷ []) ≡ look n xs
  look_push_other n [] y apart = passes n y [] apart
  look_push_other n (x ∷ xs) y apart =
      ap (cond (number x == n) (Some x)) (look_push_other n xs y apart)

  pub look_push : (n : ℕ) (xs : List A) (y : A) → number y ≡ n → AreBelow n xs
      → look n (xs ++ y ∷ []) ≡ Some y
  look_push n [] y same below = here n y [] same
  look_push n (x ∷ xs) y same below =
      passes n x (xs ++ y ∷ []) (λ h. omega (arith, h, below.0))
      ∙ look_push n xs y same below.1

  pub look_above : (n : ℕ) (xs : List A) → AreBelow n xs → look n xs ≡ None
  look_above n [] below = refl
  look_above n (x ∷ xs) below =
      passes n x xs (λ h. omega (arith, h, below.0)) ∙ look_above n xs below.1

  pub below_push : (low : ℕ) (xs : List A) (y : A) (n : ℕ) → AreBelow low xs → low ≤ n
      → number y < n → AreBelow n (xs ++ y ∷ [])
  below_push low [] y n below le lt = (lt, tt)
  below_push low (x ∷ xs) y n below le lt =
      (omega (arith, below.0, le), below_push low xs y n below.1 le lt)

  pub below_more : (low : ℕ) (xs : List A) (n : ℕ) → AreBelow low xs → low ≤ n → AreBelow n xs
  below_more low [] n below le = tt
  below_more low (x ∷ xs) n below le =
      (omega (arith, below.0, le), below_more low xs n below.1 le)

  -- the test for it
  pub all_below : (n : ℕ) (xs : List A) → AreBelow n xs
      → list_all (λ x. nat_lt (number x) n) xs ≡ true
  all_below n [] below = refl
  all_below n (x ∷ xs) below =
      and_from (nat_lt (number x) n) (list_all (λ y. nat_lt (number y) n) xs)
      ((Decides-ltb (number x) n).1 below.0) (all_below n xs below.1)
