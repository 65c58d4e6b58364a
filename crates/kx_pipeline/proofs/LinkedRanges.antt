-- Ranges that follow one another, where the last of them ends, and a group's committed offset as
-- the end of the ranges of the batches that are committed.
use Rattle.std.proofs.Common.{◌≡◌, ℕ, ℤ, pos, negsuc, ◌<ℤ◌, Bool, true, false, cond, List, [], ◌∷◌}
use Rattle.std.proofs.Common.{◌++◌, map, filter, flat_map, Some, None, refl, sym, ap, ◌∙◌, subst}
use Rattle.std.proofs.Common.{arith}
use Rattle.std.specs.Prelude.{unwrap_or}
use Rattle.std.specs.List.{last_or}
use Rattle.std.proofs.lemmas.Bool.Decides.{nat_tests}
use Rattle.std.proofs.lemmas.Int.{ints}
use Rattle.std.proofs.lemmas.List.{map-append, nil_from_length}
use Rattle.kx_model.specs.Groups.{committed_in, marked_offset, offsets_in}
use Rattle.kx_model.specs.Log.{Entry, Plain, Data, Control, Sequenced}
use Rattle.kx_model.specs.Transactions.{has_commit}
use Rattle.kx_system.specs.Processor.{from_offset}
use Rattle.kx_pipeline.specs.Chain.{AreLinked, Range, has_offset, last_end, offset_batches}

------ one range more

-- the end of the last, or this if there is none
abbrev pub end_or : ℤ → List Range → ℤ
end_or n [] = n
end_or n (range ∷ rest) = end_or range.end rest

pub last_end_is : (range : Range) (rest : List Range)
    → last_end (range ∷ rest) ≡ end_or range.end rest
last_end_is range [] = refl
last_end_is range (next ∷ rest) = last_end_is next rest

-- if there is none, to read on from its end is to read from 0
begins_alike : (ranges : List Range)
    → from_offset (last_end ranges) ≡ from_offset (end_or (pos 0) ranges)
begins_alike [] = refl
begins_alike (range ∷ rest) = ap from_offset (last_end_is range rest)

-- what is above an offset is one
above_offset : (start end : ℤ) → pos (from_offset start) ≡ start → start <ℤ end
    → pos (from_offset end) ≡ end
above_offset start (pos n) e h = refl
above_offset start (negsuc n) e h = absurd (omega (arith, ints, e, h))

more_linked : (start : ℤ) (ranges : List Range) (range : Range)
    → pos (from_offset start) ≡ start → AreLinked start ranges
    → range.from ≡ pos (from_offset (end_or start ranges)) → range.from <ℤ range.end
    → AreLinked start (ranges ++ range ∷ [])
more_linked start [] range offset linked from grows =
    (from ∙ offset, subst (λ z. z <ℤ range.end) (from ∙ offset) grows, tt)
more_linked start (first ∷ rest) range offset linked from grows = (
  linked.0,
  linked.1,
  more_linked first.end rest range (above_offset start first.end offset linked.1) linked.2 from
      grows,
)

-- a range that begins where the last one ends
pub linked_push : (ranges : List Range) (range : Range) → AreLinked (pos 0) ranges
    → range.from ≡ pos (from_offset (last_end ranges)) → range.from <ℤ range.end
    → AreLinked (pos 0) (ranges ++ range ∷ [])
linked_push ranges range linked from grows =
    more_linked (pos 0) ranges range refl linked (from ∙ ap pos (begins_alike ranges)) grows

------ where they end

last_of_ends : (n : ℤ) (ranges : List Range)
    → end_or n ranges
    ≡ unwrap_or (last_or (Some n) (map (λ (r : Range). r.end) ranges)) (negsuc 0)
last_of_ends n [] = refl
last_of_ends n (range ∷ rest) = last_of_ends range.end rest

last_end_of : (ranges : List Range)
    → last_end ranges ≡ unwrap_or (last_or None (map (λ (r : Range). r.end) ranges)) (negsuc 0)
last_end_of [] = refl
last_end_of (range ∷ rest) = last_end_is range rest ∙ last_of_ends range.end rest

------ the offsets of batches that count

module _ (group : List ℕ) (q : ℕ) where
  no_offset : (batch : Sequenced) → has_offset group q batch ≡ false
      → offsets_in group q batch ≡ []
  no_offset batch e = nil_from_length (offsets_in group q batch) (grind (arith, nat_tests, e))

  module _ (counts : Sequenced → Bool) (d : Sequenced) (others : List ℤ) (rest : List Sequenced)
      (alike : others ≡ flat_map (offsets_in group q) (filter counts rest)) where
    one_counted : (is : Bool) → cond is (offsets_in group q d) [] ++ others
        ≡ flat_map (offsets_in group q) (cond is (d ∷ filter counts rest) (filter counts rest))
    one_counted true = ap (λ l. offsets_in group q d ++ l) alike
    one_counted false = alike

    none_counted : (is : Bool) → offsets_in group q d ≡ []
        → cond is (offsets_in group q d) [] ≡ []
    none_counted true e = e
    none_counted false e = refl

    next_counted : (has : Bool) → has_offset group q d ≡ has
        → cond (counts d) (offsets_in group q d) [] ++ others
        ≡ flat_map (offsets_in group q) (filter counts (cond has (d ∷ []) [] ++ rest))
    next_counted true e = one_counted (counts d)
    next_counted false e =
        ap (λ l. l ++ others) (none_counted (counts d) (no_offset d e)) ∙ alike

  -- only batches with an offset have one that counts
  counted : (counts : Sequenced → Bool) (log : List Entry)
      → flat_map (committed_in counts group q) log
      ≡ flat_map (offsets_in group q) (filter counts (offset_batches group q log))
  counted counts [] = refl
  counted counts (Plain records ∷ log) = counted counts log
  counted counts (Control m ∷ log) = counted counts log
  counted counts (Data d ∷ log) =
      next_counted counts d (flat_map (committed_in counts group q) log)
      (offset_batches group q log) (counted counts log) (has_offset group q d) refl

  -- those whose commit marker stands in the log, in its order
  abbrev pub marked_batches : List Entry → List Sequenced
  marked_batches log =
      filter (λ batch. has_commit log batch.id batch.epoch) (offset_batches group q log)

------ ranges of batches

module _ (from_of : Sequenced → ℤ) (group : List ℕ) (q : ℕ) where
  -- from where its transaction read, up to each of its offsets
  abbrev pub ranges_in : Sequenced → List Range
  ranges_in batch =
      map (λ offset. record { from = from_of batch; end = offset }) (offsets_in group q batch)

  own_ends : (from : ℤ) (offsets : List ℤ)
      → map (λ (r : Range). r.end) (map (λ offset. record { from = from; end = offset }) offsets)
      ≡ offsets
  own_ends from [] = refl
  own_ends from (offset ∷ offsets) = ap (λ l. offset ∷ l) (own_ends from offsets)

  all_ends : (batches : List Sequenced)
      → map (λ (r : Range). r.end) (flat_map ranges_in batches)
      ≡ flat_map (offsets_in group q) batches
  all_ends [] = refl
  all_ends (batch ∷ batches) =
      map-append (λ (r : Range). r.end) (ranges_in batch) (flat_map ranges_in batches)
      ∙ ap (λ l. l ++ map (λ (r : Range). r.end) (flat_map ranges_in batches))
      (own_ends (from_of batch) (offsets_in group q batch))
      ∙ ap (λ l. offsets_in group q batch ++ l) (all_ends batches)

  -- the committed offset is the end of their last range
  pub offset_is_last_end : (log : List Entry)
      → marked_offset log group q ≡ last_end (flat_map ranges_in (marked_batches group q log))
  unfolding marked_offset
  offset_is_last_end log =
      let marked = marked_batches group q log in
      ap (λ offsets. unwrap_or (last_or None offsets) (negsuc 0))
      (counted group q (λ batch. has_commit log batch.id batch.epoch) log
      ∙ sym (all_ends marked))
      ∙ sym (last_end_of (flat_map ranges_in marked))
