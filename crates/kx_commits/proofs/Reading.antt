-- What is kept answers as the log does.
use Rattle.std.proofs.Common.{◌≡◌, ◌≤◌, ◌+◌, ◌&&◌, ◌==◌, ◌||◌, ℕ, ℤ, negsuc, Bool, true, false}
use Rattle.std.proofs.Common.{cond}
use Rattle.std.proofs.Common.{List, [], ◌∷◌, ◌++◌, map, filter, length, flat_map, nat_lt, Option}
use Rattle.std.proofs.Common.{Some, None, unwrap_or, refl, sym, ap, ◌∙◌, arith, length-append, not}
use Rattle.std.specs.Prelude.{bytes_eq, filter_map}
use Rattle.std.specs.List.{cons_option, last_or, list_any}
use Rattle.std.specs.Option.{option_map}
use Rattle.std.proofs.lemmas.Bool.Decides.{nat_tests}
use Rattle.std.proofs.lemmas.List.{length-map, map-append}
use Rattle.std.proofs.lemmas.List.Elements.{filter-append}
use Rattle.std.proofs.lemmas.List.Filters.{length-filter_both}
use Rattle.std.proofs.lemmas.List.Sums.{sum_by-cons}
use Rattle.kx_message.specs.Values.{where_true}
use Rattle.kx_model.specs.Groups.{Fact, Offset, Joined, Left, Dropped, committed_in, fact_of}
use Rattle.kx_model.specs.Groups.{is_pending, marked_offset, offset_for, offsets_in}
use Rattle.kx_model.specs.Log.{Control, Data, Entry, Placed, Plain, Sequenced, end, placed_by}
use Rattle.kx_model.specs.Log.{width}
use Rattle.kx_model.specs.Producers.{data_in}
use Rattle.kx_model.specs.Transactions.{has_commit, is_marker_of, unclosed}
use Rattle.kx_model.specs.Transactions.{unclosed_from}
use Rattle.kx_commits.specs.Follows.{StandsFor, counting, pending, said_by, said_in}
use Rattle.kx_commits.specs.Kept.{Kept, Said, Slot, is_for}
use Rattle.kx_commits.proofs.Lists.{filter-flat_map}
use Rattle.kx_commits.proofs.Saying.{said_count, said_of}
use Rattle.kx_commits.proofs.Settling.{last_from}

module _ (group : List ℕ) (partition : ℕ) where
  abbrev offsets_of : List Said → List ℤ
  offsets_of said = map (λ s. s.offset) (filter (is_for group partition) said)

  facts_offsets : (at : ℕ) (facts : List Fact) → offsets_of (filter_map (said_in at) facts)
      ≡ filter_map (offset_for group partition) facts
  facts_offsets at [] = refl
  facts_offsets at (Offset g p offset ∷ facts) =
      by (bytes_eq g group && p == partition) (facts_offsets at facts)
    where
      said : Said
      said = record { group = g; partition = p; offset = offset; at = at }

      more : List Said
      more = filter (is_for group partition) (filter_map (said_in at) facts)

      by : (b : Bool) → map (λ s. s.offset) more ≡ filter_map (offset_for group partition) facts
          → map (λ s. s.offset) (cond b (said ∷ more) more)
          ≡ cons_option (where_true b offset)
          (filter_map (offset_for group partition) facts)
      by true rest = ap (λ l. offset ∷ l) rest
      by false rest = rest
  facts_offsets at (Joined g member ∷ facts) = facts_offsets at facts
  facts_offsets at (Left g member ∷ facts) = facts_offsets at facts
  facts_offsets at (Dropped g member ∷ facts) = facts_offsets at facts

  batch_offsets : (p : Placed Sequenced)
      → offsets_of (said_by p) ≡ offsets_in group partition p.item
  batch_offsets p = facts_offsets p.offset (filter_map fact_of p.item.records)

  offsets-append : (xs ys : List Said) → offsets_of (xs ++ ys) ≡ offsets_of xs ++ offsets_of ys
  offsets-append xs ys =
      ap (map (λ s. s.offset)) (filter-append (is_for group partition) xs ys)
      ∙ map-append (λ s. s.offset) (filter (is_for group partition) xs)
      (filter (is_for group partition) ys)

  ------ committed

  log_offsets : (counts : Sequenced → Bool) (n : ℕ) (log : List Entry)
      → offsets_of (flat_map said_by
      (filter (λ p. counts p.item) (data_in (placed_by width n log))))
      ≡ flat_map (committed_in counts group partition) log
  log_offsets counts n [] = refl
  log_offsets counts n (Plain records ∷ log) = log_offsets counts (n + length records) log
  log_offsets counts n (Control marker ∷ log) = log_offsets counts (n + 1) log
  log_offsets counts n (Data d ∷ log) =
      by (counts d) (log_offsets counts (n + length d.records) log)
    where
      here : Placed Sequenced
      here = record { offset = n; item = d }

      behind : List (Placed Sequenced)
      behind =
          filter (λ p. counts p.item) (data_in (placed_by width (n + length d.records) log))

      by : (b : Bool) → offsets_of (flat_map said_by behind)
          ≡ flat_map (committed_in counts group partition) log
          → offsets_of (flat_map said_by (cond b (here ∷ behind) behind))
          ≡ cond b (offsets_in group partition d) []
          ++ flat_map (committed_in counts group partition) log
      by true rest =
          offsets-append (said_by here) (flat_map said_by behind)
          ∙ ap (λ l. l ++ offsets_of (flat_map said_by behind)) (batch_offsets here)
          ∙ ap (λ l. offsets_in group partition d ++ l) rest
      by false rest = rest

  last_offset : (o : Option (ℤ × ℕ)) (said : List Said)
      → option_map (λ (c : ℤ × ℕ). c.0) (last_from o said)
      ≡ last_or (option_map (λ (c : ℤ × ℕ). c.0) o) (map (λ s. s.offset) said)
  last_offset o [] = refl
  last_offset o (s ∷ said) = last_offset (Some (s.offset, s.at)) said

  pub committed_same : (kept : Kept) (log : List Entry) → StandsFor kept log
      → unwrap_or (option_map (λ (c : ℤ × ℕ). c.0) (kept.slot group partition).committed)
      (negsuc 0) ≡ marked_offset log group partition
  unfolding marked_offset
  committed_same kept log stands =
      ap (λ (s : Slot). unwrap_or (option_map (λ (c : ℤ × ℕ). c.0) s.committed) (negsuc 0))
      (stands.slots group partition)
      ∙ ap (λ o. unwrap_or o (negsuc 0))
      (last_offset None (filter (is_for group partition) (counting log)))
      ∙ ap (λ l. unwrap_or (last_or None l) (negsuc 0))
      (log_offsets (λ batch. has_commit log batch.id batch.epoch) 0 log)

  ------ pending

  positive_sum : (m n : ℕ) → nat_lt 0 (m + n) ≡ (nat_lt 0 m || nat_lt 0 n)
  positive_sum m n = grind (arith, nat_tests)

  its_count : (p : Placed Sequenced)
      → length (said_of group partition p) ≡ length (offsets_in group partition p.item)
  its_count p =
      sym (length-map (said_of group partition p) (λ s. s.offset)) ∙ ap length (batch_offsets p)

  any_pending : (ps : List (Placed Sequenced))
      → nat_lt 0 (length (flat_map (said_of group partition) ps))
      ≡ list_any (λ p. nat_lt 0 (length (offsets_in group partition p.item))) ps
  any_pending [] = refl
  any_pending (p ∷ ps) =
      ap (nat_lt 0) (length-append (said_of group partition p)
      (flat_map (said_of group partition) ps))
      ∙ positive_sum (length (said_of group partition p))
      (length (flat_map (said_of group partition) ps))
      ∙ ap (λ n. nat_lt 0 n || nat_lt 0 (length (flat_map (said_of group partition) ps)))
      (its_count p)
      ∙ ap (λ b. nat_lt 0 (length (offsets_in group partition p.item)) || b) (any_pending ps)

  pub pending_same : (kept : Kept) (log : List Entry) → StandsFor kept log
      → nat_lt 0 (kept.slot group partition).pending ≡ is_pending log group partition
  unfolding is_pending
  pending_same kept log stands =
      ap (λ (s : Slot). nat_lt 0 s.pending) (stands.slots group partition)
      ∙ ap (λ l. nat_lt 0 (length l))
      (filter-flat_map (is_for group partition) said_by (unclosed log))
      ∙ any_pending (unclosed log)

  ------ how many

  said_within : (n : ℕ) (log : List Entry)
      → length (flat_map said_by (unclosed_from n log)) ≤ end log
  unfolding unclosed_from
  said_within n [] = omega arith
  said_within n (Plain records ∷ log) =
      omega (arith, said_within (n + length records) log, sum_by-cons width (Plain records) log)
  said_within n (Control marker ∷ log) =
      omega (arith, said_within (n + 1) log, sum_by-cons width (Control marker) log)
  said_within n (Data d ∷ log) =
      let more = said_within (n + length d.records) log in
      let sum = sum_by-cons width (Data d) log in
      by (d.transactional && not (list_any (is_marker_of d.id) log)) more sum
    where
      here : Placed Sequenced
      here = record { offset = n; item = d }

      behind : List (Placed Sequenced)
      behind = unclosed_from (n + length d.records) log

      by : (b : Bool) → length (flat_map said_by behind) ≤ end log
          → end (Data d ∷ log) ≡ length d.records + end log
          → length (flat_map said_by (cond b (here ∷ []) [] ++ behind)) ≤ end (Data d ∷ log)
      by true h sum = omega (
        arith,
        h,
        sum,
        said_count here,
        length-append (said_by here) (flat_map said_by behind),
      )
      by false h sum = omega (arith, h, sum)

  pub pending_within : (kept : Kept) (log : List Entry) → StandsFor kept log
      → (kept.slot group partition).pending ≤ end log
  pending_within kept log stands =
      let its = is_for group partition in
      let same : (kept.slot group partition).pending ≡ length (filter its (pending log)) =
      ap (λ (s : Slot). s.pending) (stands.slots group partition) in
      omega (
        arith,
        same,
        length-filter_both its (λ s. not (its s)) (λ s. refl) (pending log),
        said_within 0 log,
      )
