-- How many bytes the records of values take.
use Rattle.std.proofs.Common.{◌≡◌, ◌+◌, ◌*◌, ◌/◌, ◌<◌, ◌≤◌, ℕ, zero, suc, pos, negsuc, List, []}
use Rattle.std.proofs.Common.{◌∷◌, ◌++◌, length, map, Option, Some, None, true, false, refl, sym}
use Rattle.std.proofs.Common.{ap, ◌∙◌, arith, append-nil, lit<, inl, inr, take}
use Rattle.std.specs.Prelude.{MatchOption, is_some}
use Rattle.std.specs.List.{enumerate_from}
use Rattle.std.proofs.lemmas.Bool.{cases_lt, lt-ltb, le-ltb}
use Rattle.std.proofs.lemmas.List.{length-append, length-take-le}
use Rattle.std.proofs.lemmas.List.Concat.{flat_map-append}
use Rattle.kx_varint.specs.Varint.{groups_of, shortest_text}
use Rattle.kx_batch.specs.Batch.{batch_limit}
use Rattle.kx_batch.specs.Build.{body_text, pushed, record_text, records_text, with_pushed}
use Rattle.kx_batch.specs.Build.{within_limit}
use Rattle.kx_batch.specs.Record.{Record}
use Rattle.kx_client.specs.Internal.{IsBatchLen}
use Rattle.kx_model.specs.Client.{value_records}

-- ---- numbers

groups1 : (fuel n : ℕ) → n < 128 → length (groups_of fuel n) ≡ 1
unfolding groups_of
groups1 zero n h = refl
groups1 (suc fuel) n h = rw (lt-ltb n 128 h) refl

more : (fuel n k : ℕ) → 128 ≤ n → length (groups_of fuel (n / 128)) ≡ k
    → length (groups_of (suc fuel) n) ≡ 1 + k
unfolding groups_of
more fuel n k h e = rw (le-ltb n 128 h) (omega (arith, e))

groups2 : (fuel n : ℕ) → 128 ≤ n → n < 16384 → length (groups_of (suc fuel) n) ≡ 2
groups2 fuel n low high = more fuel n 1 low (groups1 fuel (n / 128) (omega arith))

groups3 : (fuel n : ℕ) → 16384 ≤ n → n < 2097152 → length (groups_of (suc (suc fuel)) n) ≡ 3
groups3 fuel n low high =
    more (suc fuel) n 2 (omega arith) (groups2 fuel (n / 128) (omega arith) (omega arith))

groups4 : (fuel n : ℕ) → 2097152 ≤ n → n < 268435456
    → length (groups_of (suc (suc (suc fuel))) n) ≡ 4
groups4 fuel n low high =
    more (suc (suc fuel)) n 3 (omega arith) (groups3 fuel (n / 128) (omega arith) (omega arith))

groups5 : (fuel n : ℕ) → 268435456 ≤ n → n < 34359738368
    → length (groups_of (suc (suc (suc (suc fuel)))) n) ≡ 5
groups5 fuel n low high =
    more (suc (suc (suc fuel))) n 4 (omega arith)
    (groups4 fuel (n / 128) (omega arith) (omega arith))

module _ (n : ℕ) where
  pub number1 : n < 64 → 1 ≡ length (shortest_text (pos n))
  unfolding shortest_text
  number1 high = sym (groups1 9 (2 * n) (omega arith))

  pub number2 : 64 ≤ n → n < 8192 → 2 ≡ length (shortest_text (pos n))
  unfolding shortest_text
  number2 low high = sym (groups2 8 (2 * n) (omega arith) (omega arith))

  pub number3 : 8192 ≤ n → n < 1048576 → 3 ≡ length (shortest_text (pos n))
  unfolding shortest_text
  number3 low high = sym (groups3 7 (2 * n) (omega arith) (omega arith))

  pub number4 : 1048576 ≤ n → n < 134217728 → 4 ≡ length (shortest_text (pos n))
  unfolding shortest_text
  number4 low high = sym (groups4 6 (2 * n) (omega arith) (omega arith))

  pub number5 : 134217728 ≤ n → n < 2147483648 → 5 ≡ length (shortest_text (pos n))
  unfolding shortest_text
  number5 low high = sym (groups5 5 (2 * n) (omega arith) (omega arith))

minus_one : length (shortest_text (negsuc 0)) ≡ 1
unfolding shortest_text
minus_one = groups1 9 1 (lit< tt)

-- ---- one record

abbrev pub record_at : ℕ → List ℕ → Record
record_at at value = pushed at None (Some value) []

body_length : (at : ℕ) (value : List ℕ) → length (body_text (record_at at value))
    ≡ 4 + length (shortest_text (pos at)) + length (shortest_text (pos (length value)))
    + length value
unfolding body_text
body_length at value =
    simp length-append (omega (arith, number1 0 (lit< tt), minus_one))

module _ (at : ℕ) (value : List ℕ) where
  pub record_length : (body : ℕ)
      → body ≡ 4 + length (shortest_text (pos at)) + length (shortest_text (pos (length value)))
      + length value
      → length (shortest_text (pos body)) + body ≡ length (record_text (record_at at value))
  unfolding record_text
  record_length body e =
      let is : body ≡ length (body_text (record_at at value)) = e ∙ sym (body_length at value) in
      ap (λ (n : ℕ). length (shortest_text (pos n)) + n) is
      ∙ sym (length-append (shortest_text (pos (length (body_text (record_at at value)))))
      (body_text (record_at at value)))

  pub record_long : length value + 4 ≤ length (record_text (record_at at value))
  unfolding record_text
  record_long =
      omega (
        arith,
        length-append (shortest_text (pos (length (body_text (record_at at value)))))
            (body_text (record_at at value)),
        body_length at value,
      )

-- ---- the records of values

abbrev values_from : ℕ → List (List ℕ) → List Record
values_from n values = map (λ v. pushed v.0 None (Some v.1) []) (enumerate_from n values)

from_append : (n : ℕ) (xs ys : List (List ℕ))
    → values_from n (xs ++ ys) ≡ values_from n xs ++ values_from (n + length xs) ys
from_append n [] ys = ap (λ (m : ℕ). values_from m ys) (omega arith)
from_append n (x ∷ xs) ys =
    ap (λ (rs : List Record). record_at n x ∷ rs) (from_append (n + 1) xs ys
    ∙ ap (λ (m : ℕ). values_from (n + 1) xs ++ values_from m ys) (omega arith))

length_from : (n : ℕ) (xs : List (List ℕ)) → length (values_from n xs) ≡ length xs
length_from n [] = refl
length_from n (x ∷ xs) = omega (arith, length_from (n + 1) xs)

pub length-value_records : (xs : List (List ℕ)) → length (value_records xs) ≡ length xs
length-value_records xs = length_from 0 xs

-- how many bytes the records of values take
abbrev pub size : List (List ℕ) → ℕ
size values = length (records_text (value_records values))

pub records_push : (xs : List (List ℕ)) (x : List ℕ)
    → value_records (xs ++ x ∷ []) ≡ value_records xs ++ record_at (length xs) x ∷ []
records_push xs x =
    from_append 0 xs (x ∷ [])
    ∙ ap (λ (n : ℕ). value_records xs ++ record_at n x ∷ []) (omega arith)

size_append : (rs qs : List Record)
    → length (records_text (rs ++ qs)) ≡ length (records_text rs) + length (records_text qs)
size_append rs qs =
    ap length (flat_map-append record_text rs qs)
    ∙ length-append (records_text rs) (records_text qs)

size_one : (r : Record) → length (records_text (r ∷ [])) ≡ length (record_text r)
size_one r = ap length (append-nil (record_text r))

pub size_push : (xs : List (List ℕ)) (x : List ℕ)
    → size (xs ++ x ∷ []) ≡ size xs + length (record_text (record_at (length xs) x))
size_push xs x =
    ap (λ rs. length (records_text rs)) (records_push xs x)
    ∙ size_append (value_records xs) (record_at (length xs) x ∷ [])
    ∙ ap (λ (n : ℕ). size xs + n) (size_one (record_at (length xs) x))

-- the bytes of a batch with one more value
pub next_size : (first : List ℕ) (items : List (List ℕ)) (i : ℕ) (x : List ℕ) (len : ℕ)
    → i < length items → take (i + 1) items ≡ take i items ++ x ∷ []
    → len ≡ 61 + size (first ∷ take i items)
    → len + length (record_text (record_at (i + 1) x)) ≡ 61 + size (first ∷ take (i + 1) items)
next_size first items i x len lt one is =
    let place : length (first ∷ take i items) ≡ i + 1 =
    omega (arith, length-take-le i items (omega arith)) in
    let grown : size (first ∷ take (i + 1) items)
    ≡ size (first ∷ take i items) + length (record_text (record_at (i + 1) x)) =
    ap (λ xs. size (first ∷ xs)) one ∙ size_push (first ∷ take i items) x
    ∙ ap (λ (n : ℕ). size (first ∷ take i items) + length (record_text (record_at n x))) place in
    omega (arith, is, grown)

-- more values take no less
pub size_front : (xs ys : List (List ℕ)) → size xs ≤ size (xs ++ ys)
size_front xs ys =
    omega (
      arith,
      ap (λ rs. length (records_text rs)) (from_append 0 xs ys),
      size_append (value_records xs) (values_from (0 + length xs) ys),
    )

-- ---- the limit

too_long : (records : List Record) → batch_limit < 61 + length (records_text records)
    → is_some (within_limit records) ≡ false
too_long records h = rw (lt-ltb batch_limit (61 + length (records_text records)) h) refl

pub some_within : (records : List Record) → 61 + length (records_text records) ≤ batch_limit
    → within_limit records ≡ Some records
some_within records h = rw (le-ltb batch_limit (61 + length (records_text records)) h) refl

pub passes_limit : (xs ys : List (List ℕ)) → batch_limit < 61 + size xs
    → is_some (within_limit (value_records (xs ++ ys))) ≡ false
passes_limit xs ys h =
    too_long (value_records (xs ++ ys)) (omega (arith, size_front xs ys, h))

pub keeps_limit : (xs : List (List ℕ)) → 61 + size xs ≤ batch_limit
    → is_some (within_limit (value_records xs)) ≡ true
keeps_limit xs h = ap is_some (some_within (value_records xs) h)

pub within : (xs : List (List ℕ)) → is_some (within_limit (value_records xs)) ≡ true
    → 61 + size xs ≤ batch_limit
within xs h = elim (cases_lt batch_limit (61 + size xs)) [
  | inl lt ↦ absurd (let no = too_long (value_records xs) lt in cc)
  | inr le ↦ le
]

-- one more value is pushed if all that come are within the limit
pub one_pushed : (xs : List (List ℕ)) (x : List ℕ) (ys : List (List ℕ))
    → is_some (within_limit (value_records ((xs ++ x ∷ []) ++ ys))) ≡ true
    → with_pushed (Some (value_records xs)) None (Some x) []
    ≡ Some (value_records (xs ++ x ∷ []))
one_pushed xs x ys fit =
    ap within_limit (ap (λ (n : ℕ). value_records xs ++ record_at n x ∷ [])
    (length-value_records xs) ∙ sym (records_push xs x))
    ∙ some_within (value_records (xs ++ x ∷ []))
    (omega (arith, size_front (xs ++ x ∷ []) ys, within ((xs ++ x ∷ []) ++ ys) fit))

-- values that pass the limit do with more behind them
pub more_pass : (xs ys : List (List ℕ)) → is_some (within_limit (value_records xs)) ≡ false
    → is_some (within_limit (value_records (xs ++ ys))) ≡ false
more_pass xs ys over = elim (cases_lt batch_limit (61 + size xs)) [
  | inl lt ↦ passes_limit xs ys lt
  | inr le ↦ absurd (let fit = keeps_limit xs le in cc)
]

-- one more value fits if its record does
module _ (xs : List (List ℕ)) (x : List ℕ) (len at : ℕ) (h : IsBatchLen len xs)
    (behind : at ≡ length xs) where
  grown_size : len + length (record_text (record_at at x)) ≡ 61 + size (xs ++ x ∷ [])
  grown_size =
      omega (
        arith,
        h.is,
        size_push xs x,
        ap (λ (n : ℕ). length (record_text (record_at n x))) behind,
      )

  pub one_fits : (grown : Option ℕ)
      → MatchOption grown (batch_limit < len + length (record_text (record_at at x)))
      (λ n. (n ≡ len + length (record_text (record_at at x))) × (n ≤ batch_limit) × (at < n))
      → is_some grown ≡ is_some (within_limit (value_records (xs ++ x ∷ [])))
  one_fits None over =
      sym (too_long (value_records (xs ++ x ∷ [])) (omega (arith, over, grown_size)))
  one_fits (Some n) fits =
      sym (keeps_limit (xs ++ x ∷ []) (omega (arith, fits.0, fits.1, grown_size)))
