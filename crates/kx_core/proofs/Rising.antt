-- Clients stand in the order of their numbers, so that each is found by its own.
use Rattle.std.proofs.Common.{◌≡◌, ◌<◌, ◌≤◌, ◌==◌, ◌&&◌, ◌-◌, ℕ, Bool, true, false, cond, List, []}
use Rattle.std.proofs.Common.{◌∷◌, ◌++◌, refl, sym, ap, ◌∙◌, arith, subst, length, map, get_or}
use Rattle.std.proofs.Common.{inl, inr, zero, suc, nat_lt, Some, None}
use Rattle.std.specs.Prelude.{slice_get, slice_set}
use Rattle.std.specs.List.Sorted.{IsPartitionedBy}
use Rattle.std.proofs.lemmas.Bool.{cases_lt}
use Rattle.std.proofs.lemmas.Bool.Decides.{Decides-eqb, Decides-ltb, nat_tests}
use Rattle.kx_core.specs.Clients.{AreAbove, AreRising, client_in, with_one}
use Rattle.kx_model.specs.Client.{Client}
use Rattle.kx_model.specs.World.{is_new}

differ : (m n : ℕ) (b : Bool) → (m == n) ≡ b → (m ≡ n → ⊥) → b ≡ false
differ m n true e apart = absurd (apart ((Decides-eqb m n).0 e))
differ m n false e apart = refl

pub apart : (m n : ℕ) → (m ≡ n → ⊥) → (m == n) ≡ false
apart m n h = differ m n (m == n) refl h

pub equal : (m n : ℕ) → m ≡ n → (m == n) ≡ true
equal m n e = (Decides-eqb m n).1 e

and_both : (a b : Bool) → (a && b) ≡ true → (a ≡ true) × (b ≡ true)
and_both true b e = (refl, e)
and_both false b e = absurd cc

and_false_right : (x y : Bool) → y ≡ false → (x && y) ≡ y
and_false_right true y e = refl
and_false_right false y e = sym e

and_true_right : (x : Bool) → (x && true) ≡ x
and_true_right true = refl
and_true_right false = refl

not_lower : (b n : ℕ) → n ≤ b → nat_lt b n ≡ false
not_lower b n le = grind (arith, nat_tests)

pub at_least_number : (n number : ℕ) → nat_lt n number ≡ false → number ≤ n
at_least_number n number e = grind (arith, nat_tests)

lower_too : (a b n : ℕ) → a < b → (nat_lt a n && nat_lt b n) ≡ nat_lt b n
lower_too a b n lt = elim (cases_lt b n) [
  | inl below ↦ ap (λ x. x && nat_lt b n) ((Decides-ltb a n).1 (omega (arith, lt, below)))
  | inr le ↦ and_false_right (nat_lt a n) (nat_lt b n) (not_lower b n le)
]

-- what has a client each
module _ {X : Type 0} (client : X → Client) where
  abbrev pub number_of : X → ℕ
  number_of x = (client x).number

  abbrev pub Above : ℕ → List X → Type 0
  Above low xs = AreAbove low (map number_of xs)

  abbrev pub Rising : List X → Type 0
  Rising xs = AreRising (map number_of xs)

  at_least : (low : ℕ) (xs : List X) → Above low xs → (k : ℕ) (d : X) → k < length xs
      → low < number_of (get_or xs k d)
  at_least low [] h k d lt = absurd (omega arith)
  at_least low (x ∷ xs) h zero d lt = h.0
  at_least low (x ∷ xs) h (suc k) d lt =
      omega (arith, h.0, at_least (number_of x) xs h.1 k d (omega arith))

  rises : (xs : List X) → Rising xs → (i j : ℕ) (d : X) → i < j → j < length xs
      → number_of (get_or xs i d) < number_of (get_or xs j d)
  rises [] h i j d lt len = absurd (omega arith)
  rises (x ∷ xs) h i zero d lt len = absurd (omega arith)
  rises (x ∷ xs) h zero (suc j) d lt len = at_least (number_of x) xs h j d (omega arith)
  rises (x ∷ []) h (suc i) (suc j) d lt len = absurd (omega arith)
  rises (x ∷ y ∷ xs) h (suc i) (suc j) d lt len =
      rises (y ∷ xs) h.1 i j d (omega arith) (omega arith)

  -- those below a number come first
  pub below_first : (number : ℕ) (xs : List X) → Rising xs
      → IsPartitionedBy (λ x. nat_lt (number_of x) number) xs
  below_first number xs h i j d le len e =
      let high : number_of (get_or xs j d) < number = (Decides-ltb _ _).0 e in
      elim (cases_lt i j) [
        | inl lt ↦ (Decides-ltb _ _).1 (omega (arith, rises xs h i j d lt len, high))
        | inr ge ↦ let at : i ≡ j = omega arith in
            ap (λ (n : ℕ). nat_lt (number_of (get_or xs n d)) number) at ∙ e
      ]

  abbrev pub clients : List X → List Client
  clients xs = map client xs

  -- one of another number isn't the one that is looked for
  passes : (number : ℕ) (x : X) (xs : List X) → (number_of x ≡ number → ⊥)
      → client_in (clients (x ∷ xs)) number ≡ client_in (clients xs) number
  passes number x xs h =
      ap (λ b. cond b (Some (client x)) (client_in (clients xs) number))
      (apart (number_of x) number h)

  absent : (number : ℕ) (xs : List X)
      → ((k : ℕ) (d : X) → k < length xs → number_of (get_or xs k d) ≡ number → ⊥)
      → client_in (clients xs) number ≡ None
  absent number [] none = refl
  absent number (x ∷ xs) none =
      passes number x xs (none 0 x (omega arith))
      ∙ absent number xs (λ k d lt. none (suc k) d (omega arith))

  keeps : (number : ℕ) (x after : X) (xs : List X) → number_of after ≡ number
      → (number_of x ≡ number → ⊥)
      → with_one (clients (x ∷ xs)) (client after)
      ≡ client x ∷ with_one (clients xs) (client after)
  keeps number x after xs is h =
      ap (λ b. cond b (client after) (client x) ∷ with_one (clients xs) (client after))
      (apart (number_of x) (number_of after) (λ e. h (e ∙ is)))

  all_keep : (low : ℕ) (after : X) (xs : List X) → Above low xs → number_of after ≤ low
      → with_one (clients xs) (client after) ≡ clients xs
  all_keep low after [] h le = refl
  all_keep low after (x ∷ xs) h le =
      keeps (number_of after) x after xs refl (λ e. omega (arith, e, h.0, le))
      ∙ ap (λ (cs : List Client). client x ∷ cs)
      (all_keep (number_of x) after xs h.1 (omega (arith, h.0, le)))

  pub above_at : (low : ℕ) (xs : List X) (k : ℕ) (x : X) → Above low xs
      → slice_get xs k ≡ Some x → low < number_of x
  above_at low [] k x h is = absurd cc
  above_at low (y ∷ xs) zero x h is =
      let same : y ≡ x = cc in subst (λ (z : X). low < number_of z) same h.0
  above_at low (y ∷ xs) (suc k) x h is =
      omega (arith, h.0, above_at (number_of y) xs k x h.1 is)

  here : (y x : X) (xs : List X) → y ≡ x
      → client_in (clients (y ∷ xs)) (number_of x) ≡ Some (client x)
  here y x xs same =
      ap (λ b. cond b (Some (client y)) (client_in (clients xs) (number_of x)))
      (equal (number_of y) (number_of x) (ap number_of same))
      ∙ ap (λ (z : X). Some (client z)) same

  found_above : (low : ℕ) (xs : List X) (k : ℕ) (x : X) → Above low xs
      → slice_get xs k ≡ Some x → client_in (clients xs) (number_of x) ≡ Some (client x)
  found_above low [] k x h is = absurd cc
  found_above low (y ∷ xs) zero x h is = here y x xs cc
  found_above low (y ∷ xs) (suc k) x h is =
      passes (number_of x) y xs
      (λ e. omega (arith, e, above_at (number_of y) xs k x h.1 is))
      ∙ found_above (number_of y) xs k x h.1 is

  -- what is found by its place is found by its number
  pub found : (xs : List X) (k : ℕ) (x : X) → Rising xs → slice_get xs k ≡ Some x
      → client_in (clients xs) (number_of x) ≡ Some (client x)
  found [] k x h is = absurd cc
  found (y ∷ xs) zero x h is = here y x xs cc
  found (y ∷ xs) (suc k) x h is =
      passes (number_of x) y xs (λ e. omega (arith, e, above_at (number_of y) xs k x h is))
      ∙ found_above (number_of y) xs k x h is

  replaced_first : (y after : X) (xs : List X) → number_of after ≡ number_of y
      → Above (number_of y) xs
      → with_one (clients (y ∷ xs)) (client after) ≡ client after ∷ clients xs
  replaced_first y after xs same h =
      ap (λ b. cond b (client after) (client y) ∷ with_one (clients xs) (client after))
      (equal (number_of y) (number_of after) (sym same))
      ∙ ap (λ (cs : List Client). client after ∷ cs)
      (all_keep (number_of y) after xs h (omega (arith, same)))

  replaced_above : (low : ℕ) (xs : List X) (k : ℕ) (x after : X) → Above low xs
      → slice_get xs k ≡ Some x → number_of after ≡ number_of x
      → (with_one (clients xs) (client after) ≡ clients (slice_set xs k after))
      × Above low (slice_set xs k after)
  replaced_above low [] k x after h is same = absurd cc
  replaced_above low (y ∷ xs) zero x after h is same =
      let own : number_of after ≡ number_of y = same ∙ ap number_of (cc) in (
        replaced_first y after xs own h.1,
        (omega (arith, h.0, own), subst (λ (n : ℕ). Above n xs) (sym own) h.1),
      )
  replaced_above low (y ∷ xs) (suc k) x after h is same =
      let rest = replaced_above (number_of y) xs k x after h.1 is same in (
        keeps (number_of after) y after xs refl
            (λ e. omega (arith, e, same, above_at (number_of y) xs k x h.1 is))
            ∙ ap (λ (cs : List Client). client y ∷ cs) rest.0,
        (h.0, rest.1),
      )

  -- one of the same number takes the place of another
  pub replaced : (xs : List X) (k : ℕ) (x after : X) → Rising xs → slice_get xs k ≡ Some x
      → number_of after ≡ number_of x
      → (with_one (clients xs) (client after) ≡ clients (slice_set xs k after))
      × Rising (slice_set xs k after)
  replaced [] k x after h is same = absurd cc
  replaced (y ∷ xs) zero x after h is same =
      let own : number_of after ≡ number_of y = same ∙ ap number_of (cc) in (
        replaced_first y after xs own h,
        subst (λ (n : ℕ). Above n xs) (sym own) h,
      )
  replaced (y ∷ xs) (suc k) x after h is same =
      let rest = replaced_above (number_of y) xs k x after h is same in (
        keeps (number_of after) y after xs refl
            (λ e. omega (arith, e, same, above_at (number_of y) xs k x h is))
            ∙ ap (λ (cs : List Client). client y ∷ cs) rest.0,
        rest.1,
      )

  above_push : (low : ℕ) (xs : List X) (x : X) → Above low xs → low < number_of x
      → is_new (number_of x) (clients xs) ≡ true → Above low (xs ++ x ∷ [])
  above_push low [] x h lt new = (lt, tt)
  above_push low (y ∷ xs) x h lt new =
      let both = and_both (nat_lt (number_of y) (number_of x))
      (is_new (number_of x) (clients xs)) new in
      (h.0, above_push (number_of y) xs x h.1 ((Decides-ltb _ _).0 both.0) both.1)

  pub rising_push : (xs : List X) (x : X) → Rising xs
      → is_new (number_of x) (clients xs) ≡ true → Rising (xs ++ x ∷ [])
  rising_push [] x h new = tt
  rising_push (y ∷ xs) x h new =
      let both = and_both (nat_lt (number_of y) (number_of x))
      (is_new (number_of x) (clients xs)) new in
      above_push (number_of y) xs x h ((Decides-ltb _ _).0 both.0) both.1

  -- the last one has the greatest number
  pub last_decides : (n : ℕ) (xs : List X) (x : X) → Rising xs
      → slice_get xs (length xs - 1) ≡ Some x
      → is_new n (clients xs) ≡ nat_lt (number_of x) n
  last_decides n [] x h is = absurd cc
  last_decides n (y ∷ []) x h is =
      let same : y ≡ x = cc in
      and_true_right (nat_lt (number_of y) n) ∙ ap (λ (z : X). nat_lt (number_of z) n) same
  last_decides n (y ∷ z ∷ xs) x h is =
      let at : length (y ∷ z ∷ xs) - 1 ≡ suc (length xs) = omega arith in
      let inner : length (z ∷ xs) - 1 ≡ length xs = omega arith in
      let there : slice_get (z ∷ xs) (length xs) ≡ Some x =
      subst (λ (k : ℕ). slice_get (y ∷ z ∷ xs) k ≡ Some x) at is in
      let rest = last_decides n (z ∷ xs) x h.1
      (subst (λ (k : ℕ). slice_get (z ∷ xs) k ≡ Some x) (sym inner) there) in
      let below = above_at (number_of y) (z ∷ xs) (length xs) x h there in
      ap (λ b. nat_lt (number_of y) n && b) rest ∙ lower_too (number_of y) (number_of x) n below

  -- whoever isn't where the numbers below end isn't there
  pub absent_at : (number : ℕ) (xs : List X) (p : ℕ) → Rising xs
      → ((k : ℕ) (d : X) → k < p → nat_lt (number_of (get_or xs k d)) number ≡ true)
      → ((d : X) → p < length xs → nat_lt (number_of (get_or xs p d)) number ≡ false)
      → ((d : X) → p < length xs → number_of (get_or xs p d) ≡ number → ⊥)
      → client_in (clients xs) number ≡ None
  absent_at number xs p h before at here = absent number xs (λ k d lt e.
      elim (cases_lt k p) [
        | inl low ↦ let less : number_of (get_or xs k d) < number =
            (Decides-ltb _ _).0 (before k d low) in omega (arith, less, e)
        | inr ge ↦ elim (cases_lt p k) [
          | inl above ↦ let first : number ≤ number_of (get_or xs p d) =
              at_least_number (number_of (get_or xs p d)) number (at d (omega arith)) in
              omega (arith, e, first, rises xs h p k d above lt)
          | inr le ↦ let same : p ≡ k = omega arith in
              here d (omega arith) (ap (λ (n : ℕ). number_of (get_or xs n d)) same ∙ e)
        ]
      ])
