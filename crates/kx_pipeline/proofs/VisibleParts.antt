-- What is visible of a range and of the one that follows it is what is visible of both as one: the
-- offsets of what is visible go up.
use Rattle.std.proofs.Common.{◌≡◌, ◌≤◌, ◌+◌, ℕ, ℤ, pos, ◌≤ℤ◌, Bool, true, false, ◌||◌, cond, List}
use Rattle.std.proofs.Common.{[], ◌∷◌, ◌++◌, length, filter, refl, ap, ◌∙◌, arith}
use Rattle.std.specs.Prelude.{int_lt, not}
use Rattle.std.proofs.lemmas.Int.{ints}
use Rattle.kx_batch.specs.Record.{Record}
use Rattle.kx_model.specs.Coordinator.{commits}
use Rattle.kx_model.specs.Log.{Entry, Plain, Data, Control, width}
use Rattle.kx_model.specs.Reading.{Shown, numbered, standing, visible}
use Rattle.kx_model.specs.Transactions.{last_stable_offset}
use Rattle.kx_model.specs.World.{World, entries_at, notes}
use Rattle.kx_laws.proofs.ShownRecords.{all_standing}
use Rattle.kx_pipeline.specs.Visible.{between, visible_in}

------ offsets that go up

-- from this one on
abbrev Rising : ℤ → List Shown → Type 0
Rising low [] = Unit {0}
Rising low (s ∷ records) = (low ≤ℤ s.offset) × Rising s.offset records

rising_from : (low first : ℤ) (records : List Shown) → low ≤ℤ first → Rising first records
    → Rising low records
rising_from low first [] h rising = tt
rising_from low first (s ∷ records) h rising = (omega (arith, ints, h, rising.0), rising.1)

numbered_rising : (low : ℤ) (n m : ℕ) (records : List Record) (more : List Shown) → low ≤ℤ pos n
    → n + length records ≤ m → Rising (pos m) more
    → Rising low (numbered (pos n) records ++ more)
numbered_rising low n m [] more h ends rising =
    rising_from low (pos m) more (omega (arith, ints, h, ends)) rising
numbered_rising low n m (r ∷ records) more h ends rising = (
  h,
  numbered_rising (pos n) (n + 1) m records more (omega (arith, ints)) (omega (arith, ends)) rising,
)

standing_rising : (commits : ℕ → ℕ → Bool) (n : ℕ) (entry : Entry) (more : List Shown)
    → Rising (pos (n + width entry)) more → Rising (pos n) (standing commits n entry ++ more)
standing_rising commits n (Plain records) more rising =
    numbered_rising (pos n) n (n + length records) records more (omega (arith, ints))
    (omega arith) rising
standing_rising commits n (Control m) more rising =
    rising_from (pos n) (pos (n + width (Control m))) more (omega (arith, ints)) rising
standing_rising commits n (Data d) more rising =
    by (not d.transactional || commits d.id d.epoch)
  where
    by : (b : Bool) → Rising (pos n) (cond b (numbered (pos n) d.records) [] ++ more)
    by true =
        numbered_rising (pos n) n (n + length d.records) d.records more (omega (arith, ints))
        (omega arith) rising
    by false = rising_from (pos n) (pos (n + length d.records)) more (omega (arith, ints)) rising

all_rising : (commits : ℕ → ℕ → Bool) (n : ℕ) (log : List Entry)
    → Rising (pos n) (all_standing commits n log)
all_rising commits n [] = tt
all_rising commits n (entry ∷ log) =
    standing_rising commits n entry (all_standing commits (n + width entry) log)
    (all_rising commits (n + width entry) log)

filter_rising : (test : Shown → Bool) (low : ℤ) (records : List Shown) → Rising low records
    → Rising low (filter test records)
filter_rising test low [] rising = tt
filter_rising test low (s ∷ records) rising =
    by (test s) (filter_rising test s.offset records rising.1)
  where
    by : (b : Bool) → Rising s.offset (filter test records)
        → Rising low (cond b (s ∷ filter test records) (filter test records))
    by true rest = (rising.0, rest)
    by false rest = rising_from low s.offset (filter test records) rising.0 rest

visible_rising : (log : List Entry) (commits : ℕ → ℕ → Bool) → Rising (pos 0) (visible log commits)
unfolding visible
visible_rising log commits =
    filter_rising (λ s. int_lt s.offset (pos (last_stable_offset log))) (pos 0)
    (all_standing commits 0 log) (all_rising commits 0 log)

------ ranges

-- nothing is visible of a range that ends where it begins, or before
none_between : (from next : ℤ) (records : List Shown) → next ≤ℤ from
    → filter (between from next) records ≡ []
none_between from next [] h = refl
none_between from next (s ∷ records) h =
    let out : between from next s ≡ false = grind (arith, ints, h) in
    let rest = filter (between from next) records in
    ap (λ b. cond b (s ∷ rest) rest) out ∙ none_between from next records h

pub visible_of_none : (w : World) (q : ℕ) (from next : ℤ) → next ≤ℤ from
    → visible_in w q from next ≡ []
visible_of_none w q from next h =
    none_between from next (visible (entries_at w q) (commits (notes w))) h

module _ (from middle next : ℤ) (first : from ≤ℤ middle) (second : middle ≤ℤ next) where
  abbrev front : List Shown → List Shown
  front records = filter (between from middle) records

  abbrev back : List Shown → List Shown
  back records = filter (between middle next) records

  abbrev both : List Shown → List Shown
  both records = filter (between from next) records

  -- behind the first range
  front_none : (low : ℤ) (records : List Shown) → middle ≤ℤ low → Rising low records
      → front records ≡ []
  front_none low [] h rising = refl
  front_none low (s ∷ records) h rising =
      let above = rising.0 in
      let out : between from middle s ≡ false = grind (arith, ints, h, above) in
      ap (λ b. cond b (s ∷ front records) (front records)) out
      ∙ front_none s.offset records (omega (arith, ints, h, above)) rising.1

  back_is_both : (low : ℤ) (records : List Shown) → middle ≤ℤ low → Rising low records
      → back records ≡ both records
  back_is_both low [] h rising = refl
  back_is_both low (s ∷ records) h rising =
      let above = rising.0 in
      let same : between middle next s ≡ between from next s =
      grind (arith, ints, h, above, first) in
      ap (λ b. cond b (s ∷ back records) (back records)) same
      ∙ ap (λ l. cond (between from next s) (s ∷ l) l)
      (back_is_both s.offset records (omega (arith, ints, h, above)) rising.1)

  -- one that is in the first range, or before both
  one_more : (b : Bool) (s : Shown) (records : List Shown)
      → front records ++ back records ≡ both records
      → cond b (s ∷ front records) (front records) ++ back records
      ≡ cond b (s ∷ both records) (both records)
  one_more true s records e = ap (λ l. s ∷ l) e
  one_more false s records e = e

  split : (low : ℤ) (records : List Shown) → Rising low records
      → front records ++ back records ≡ both records
  split low [] rising = refl
  split low (s ∷ records) rising =
      by (int_lt s.offset middle) refl (split s.offset records rising.1)
    where
      by : (b : Bool) → int_lt s.offset middle ≡ b
          → front records ++ back records ≡ both records
          → front (s ∷ records) ++ back (s ∷ records) ≡ both (s ∷ records)
      by true e rest =
          let out : between middle next s ≡ false = grind (arith, ints, e) in
          let same : between from middle s ≡ between from next s =
          grind (arith, ints, e, second) in
          ap (λ b. front (s ∷ records) ++ cond b (s ∷ back records) (back records)) out
          ∙ ap (λ b. cond b (s ∷ front records) (front records) ++ back records) same
          ∙ one_more (between from next s) s records rest
      by false e rest =
          let above : middle ≤ℤ s.offset = grind (arith, ints, e) in
          let all : Rising s.offset (s ∷ records) = (omega (arith, ints), rising.1) in
          ap (λ l. l ++ back (s ∷ records)) (front_none s.offset (s ∷ records) above all)
          ∙ back_is_both s.offset (s ∷ records) above all

  pub visible_parts : (w : World) (q : ℕ)
      → visible_in w q from middle ++ visible_in w q middle next ≡ visible_in w q from next
  visible_parts w q =
      split (pos 0) (visible (entries_at w q) (commits (notes w)))
      (visible_rising (entries_at w q) (commits (notes w)))
