-- The last of what counted and of what begins to count, in the order of the log.
use Rattle.std.proofs.Common.{◌≡◌, ◌≤◌, ◌<◌, ◌+◌, ◌-◌, ◌||◌, ℕ, ℤ, Bool, true, false, cond, List}
use Rattle.std.proofs.Common.{[]}
use Rattle.std.proofs.Common.{◌∷◌, ◌++◌, map, filter, length, nat_lt, Option, Some, None, refl, sym}
use Rattle.std.proofs.Common.{ap, ◌∙◌, arith, flat_map, All, subst}
use Rattle.std.specs.Prelude.{⊤, fold}
use Rattle.std.specs.List.{last_or}
use Rattle.std.proofs.lemmas.Bool.Decides.{nat_tests}
use Rattle.std.proofs.lemmas.List.Elements.{All-append, All-head, All-nil, All-tail, All-weaker}
use Rattle.std.proofs.lemmas.List.Sums.{fold-append}
use Rattle.kx_message.specs.declared.outcome.Outcome.TheVariants.{Abort, Commit}
use Rattle.kx_model.specs.Log.{Entry, Plain, Data, Control, Placed, Sequenced, placed_by, width}
use Rattle.kx_model.specs.Producers.{data_in}
use Rattle.kx_commits.specs.Kept.{Said, Slot, later, settled}

-- the last of these, or else that one
abbrev pub last_from : Option (ℤ × ℕ) → List Said → Option (ℤ × ℕ)
last_from o said = last_or o (map (λ s. (s.offset, s.at)) said)

-- what holds after all of these
abbrev pub latest : Option (ℤ × ℕ) → List Said → Option (ℤ × ℕ)
latest o said = fold (λ c s. later s c) o said

pub last_from-append : (o : Option (ℤ × ℕ)) (xs ys : List Said)
    → last_from o (xs ++ ys) ≡ last_from (last_from o xs) ys
last_from-append o [] ys = refl
last_from-append o (x ∷ xs) ys = last_from-append (Some (x.offset, x.at)) xs ys

------ a slot

pub slot_is : (a b : Option (ℤ × ℕ)) (m n : ℕ) → a ≡ b → m ≡ n
    → ◌≡◌ {A = Slot} (record { committed = a; pending = m })
    (record { committed = b; pending = n })
slot_is a b m n e f = λ i. record { committed = e i; pending = f i }

pub all_commit : (said : List Said) (slot : Slot) → fold (settled Commit) slot said
    ≡ record { committed = latest slot.committed said; pending = slot.pending - length said }
all_commit [] slot =
    slot_is slot.committed slot.committed slot.pending (slot.pending - 0) refl (omega arith)
all_commit (s ∷ said) slot =
    all_commit said (settled Commit slot s)
    ∙ slot_is _ _ (slot.pending - 1 - length said) (slot.pending - length (s ∷ said)) refl
    (omega arith)

pub all_abort : (said : List Said) (slot : Slot) → fold (settled Abort) slot said
    ≡ record { committed = slot.committed; pending = slot.pending - length said }
all_abort [] slot =
    slot_is slot.committed slot.committed slot.pending (slot.pending - 0) refl (omega arith)
all_abort (s ∷ said) slot =
    all_abort said (settled Abort slot s)
    ∙ slot_is _ _ (slot.pending - 1 - length said) (slot.pending - length (s ∷ said)) refl
    (omega arith)

------ one batch

-- what is known stands no later than the offset
abbrev pub Before : ℕ → Option (ℤ × ℕ) → Type 0
Before n None = ⊤
Before n (Some known) = known.1 ≤ n

abbrev After : ℕ → Option (ℤ × ℕ) → Type 0
After n None = ⊥
After n (Some known) = n < known.1

before_more : (m n : ℕ) (o : Option (ℤ × ℕ)) → m ≤ n → Before m o → Before n o
before_more m n None le h = tt
before_more m n (Some known) le h = omega arith

replaces : (s : Said) (o : Option (ℤ × ℕ)) → Before s.at o → later s o ≡ Some (s.offset, s.at)
replaces s None h = refl
replaces s (Some known) h =
    let old : nat_lt s.at known.1 ≡ false = grind (arith, nat_tests) in
    ap (λ b. cond b (Some known) (Some (s.offset, s.at))) old

stays : (s : Said) (o : Option (ℤ × ℕ)) → After s.at o → later s o ≡ o
stays s None h = absurd h
stays s (Some known) h =
    let new : nat_lt s.at known.1 ≡ true = grind (arith, nat_tests) in
    ap (λ b. cond b (Some known) (Some (s.offset, s.at))) new

-- the same offset of all
module _ (at : ℕ) where
  abbrev IsAt : Said → Type 0
  IsAt s = s.at ≡ at

  abbrev IsPast : Said → Type 0
  IsPast s = at < s.at

  all_replace : (said : List Said) (o : Option (ℤ × ℕ)) → Before at o → All IsAt said
      → latest o said ≡ last_from o said
  all_replace [] o h all = refl
  all_replace (s ∷ said) o h all =
      let is : s.at ≡ at = All-head IsAt s said all in
      ap (λ c. latest c said) (replaces s o (before_more at s.at o (omega (arith, is)) h))
      ∙ all_replace said (Some (s.offset, s.at)) (omega (arith, is)) (All-tail IsAt s said all)

  all_stay : (said : List Said) (o : Option (ℤ × ℕ)) → After at o → All IsAt said
      → latest o said ≡ o
  all_stay [] o h all = refl
  all_stay (s ∷ said) o h all =
      let is : s.at ≡ at = All-head IsAt s said all in
      ap (λ c. latest c said) (stays s o (subst (λ n. After n o) (sym is) h))
      ∙ all_stay said o h (All-tail IsAt s said all)

  last_after : (past : List Said) (o : Option (ℤ × ℕ)) → After at o → All IsPast past
      → After at (last_from o past)
  last_after [] o h all = h
  last_after (s ∷ past) o h all =
      last_after past (Some (s.offset, s.at)) (All-head IsPast s past all)
      (All-tail IsPast s past all)

  last_before : (said : List Said) (o : Option (ℤ × ℕ)) → Before at o → All IsAt said
      → Before at (last_from o said)
  last_before [] o h all = h
  last_before (s ∷ said) o h all =
      let is : s.at ≡ at = All-head IsAt s said all in
      last_before said (Some (s.offset, s.at)) (omega (arith, is)) (All-tail IsAt s said all)

  -- what one batch says may count after what stands behind it
  passes : (said past : List Said) (o : Option (ℤ × ℕ)) → Before at o → All IsAt said
      → All IsPast past → latest (last_from o past) said ≡ last_from (last_from o said) past
  passes said [] o h all behind = all_replace said o h all
  passes said (y ∷ past) o h all behind =
      all_stay said (last_from (Some (y.offset, y.at)) past)
      (last_after past (Some (y.offset, y.at)) (All-head IsPast y past behind)
      (All-tail IsPast y past behind))
      all

------ all batches

-- each batch stands behind those before it, from the offset n on
abbrev pub InOrder : ℕ → List (Placed Sequenced) → Type 0
InOrder n [] = ⊤
InOrder n (p ∷ ps) = (n ≤ p.offset) × InOrder (p.offset + length p.item.records) ps

pub data_in_order : (n k : ℕ) (log : List Entry) → k ≤ n
    → InOrder k (data_in (placed_by width n log))
data_in_order n k [] le = tt
data_in_order n k (Plain records ∷ log) le =
    data_in_order (n + length records) k log (omega arith)
data_in_order n k (Control marker ∷ log) le = data_in_order (n + 1) k log (omega arith)
data_in_order n k (Data d ∷ log) le =
    (le, data_in_order (n + length d.records) (n + length d.records) log (omega arith))

-- what is said at its batch's offset, by a batch that has records
abbrev pub SaidBy : Placed Sequenced → Said → Type 0
SaidBy p s = (s.at ≡ p.offset) × (0 < length p.item.records)

module _ (says : Placed Sequenced → List Said)
    (stands : (p : Placed Sequenced) → All (SaidBy p) (says p)) where
  at_its_offset : (p : Placed Sequenced) → All (λ s. s.at ≡ p.offset) (says p)
  at_its_offset p =
      All-weaker (SaidBy p) (λ s. s.at ≡ p.offset) (λ s h. h.0) (says p) (stands p)

  -- what is said from the offset n on
  from_here : (test : Placed Sequenced → Bool) (n : ℕ) (ps : List (Placed Sequenced))
      → InOrder n ps → All (λ s. n ≤ s.at) (flat_map says (filter test ps))
  from_here test n [] order = All-nil (λ s. n ≤ s.at)
  from_here test n (p ∷ ps) order =
      by (test p)
      (All-weaker (λ s. p.offset + length p.item.records ≤ s.at) (λ s. n ≤ s.at)
      (λ s h. omega (arith, h, order.0)) (flat_map says (filter test ps))
      (from_here test (p.offset + length p.item.records) ps order.1))
    where
      by : (b : Bool) → All (λ s. n ≤ s.at) (flat_map says (filter test ps))
          → All (λ s. n ≤ s.at) (flat_map says (cond b (p ∷ filter test ps) (filter test ps)))
      by true rest =
          All-append (λ s. n ≤ s.at) (says p) (flat_map says (filter test ps))
          (All-weaker (λ s. s.at ≡ p.offset) (λ s. n ≤ s.at) (λ s h. omega (arith, h, order.0))
          (says p) (at_its_offset p))
          rest
      by false rest = rest

  -- one batch begins to count
  counts_now : (p : Placed Sequenced) (past : List Said) (o : Option (ℤ × ℕ))
      → Before p.offset o → All (λ s. p.offset + length p.item.records ≤ s.at) past
      → latest (last_from o past) (says p) ≡ last_from (last_from o (says p)) past
  counts_now p past o h behind = by (says p) (stands p)
    where
      by : (said : List Said) → All (SaidBy p) said
          → latest (last_from o past) said ≡ last_from (last_from o said) past
      by [] all = refl
      by (s ∷ said) all =
          let some : 0 < length p.item.records = (All-head (SaidBy p) s said all).1 in
          passes p.offset (s ∷ said) past o h
          (All-weaker (SaidBy p) (λ s. s.at ≡ p.offset) (λ s h. h.0) (s ∷ said) all)
          (All-weaker (λ s. p.offset + length p.item.records ≤ s.at) (λ s. p.offset < s.at)
          (λ s h. omega (arith, h, some)) past behind)

  module _ (old new : Placed Sequenced → Bool)
      (apart : (p : Placed Sequenced) → new p ≡ true → old p ≡ false) where
    -- those that counted, and behind them those that begin to, come to the last of all in order
    pub merged : (n : ℕ) (ps : List (Placed Sequenced)) (o : Option (ℤ × ℕ)) → InOrder n ps
        → Before n o
        → latest (last_from o (flat_map says (filter old ps))) (flat_map says (filter new ps))
        ≡ last_from o (flat_map says (filter (λ p. old p || new p) ps))
    merged n [] o order h = refl
    merged n (p ∷ ps) o order h =
        by (old p) (new p) refl refl
        (λ c. merged (p.offset + length p.item.records) ps c order.1)
      where
        next : ℕ
        next = p.offset + length p.item.records

        olds : List (Placed Sequenced)
        olds = filter old ps

        news : List (Placed Sequenced)
        news = filter new ps

        all : List (Placed Sequenced)
        all = filter (λ p. old p || new p) ps

        said : List Said
        said = says p

        still : Before p.offset o
        still = before_more n p.offset o order.0 h

        known : Before next (last_from o said)
        known =
            before_more p.offset next (last_from o said) (omega arith)
            (last_before p.offset said o still (at_its_offset p))

        by : (x y : Bool) → old p ≡ x → new p ≡ y
            → ((c : Option (ℤ × ℕ)) → Before next c
            → latest (last_from c (flat_map says olds)) (flat_map says news)
            ≡ last_from c (flat_map says all))
            → latest (last_from o (flat_map says (cond x (p ∷ olds) olds)))
            (flat_map says (cond y (p ∷ news) news))
            ≡ last_from o (flat_map says (cond (x || y) (p ∷ all) all))
        by false false e f rest = rest o (before_more p.offset next o (omega arith) still)
        by true false e f rest =
            ap (λ c. latest c (flat_map says news)) (last_from-append o said (flat_map says olds))
            ∙ rest (last_from o said) known ∙ sym (last_from-append o said (flat_map says all))
        by false true e f rest =
            fold-append (λ c s. later s c) (last_from o (flat_map says olds)) said
            (flat_map says news)
            ∙ ap (λ c. latest c (flat_map says news))
            (counts_now p (flat_map says olds) o still (from_here old next ps order.1))
            ∙ rest (last_from o said) known ∙ sym (last_from-append o said (flat_map says all))
        by true true e f rest = let no = apart p f in absurd (cc)
