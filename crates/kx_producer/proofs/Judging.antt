-- The verdict by what is kept is the one by the log.
use Rattle.std.proofs.Common.{◌≡◌, ◌+◌, ◌-◌, ◌<◌, ◌==◌, ◌&&◌, ◌||◌, not, ℕ, pos, Bool}
use Rattle.std.proofs.Common.{true, false, cond, nat_lt, nat_le, List, [], ◌∷◌, length}
use Rattle.std.proofs.Common.{drop, map, find, zero, suc, Option, Some, None, refl, sym, ap}
use Rattle.std.proofs.Common.{◌∙◌, subst, arith}
use Rattle.std.specs.Option.{option_map}
use Rattle.std.specs.Ordering.{int_eq}
use Rattle.std.proofs.lemmas.Bool.Decides.{Decides-int_eq, nat_tests}
use Rattle.kx_model.specs.Log.{Entry, Placed, Sequenced, last_sequence, placed, placed_by, width}
use Rattle.kx_model.specs.Produce.{greatest_sequence, is_below, is_out_of_order, marked_by}
use Rattle.kx_model.specs.Produce.{same_batch}
use Rattle.kx_model.specs.Producers.{batches_of, epoch_of, expected, last_of, remembered}
use Rattle.kx_model.specs.Producers.{sequence_after}
use Rattle.kx_producer.specs.Follows.{StandsFor, batches_in, items, known_at}
use Rattle.kx_producer.specs.Follows.{remembered_of}
use Rattle.kx_producer.specs.Known.{Table, known_of, marked_in}
use Rattle.kx_producer.specs.Verdicts.{duplicate_at, duplicate_or, has_sequences, in_turn}
use Rattle.kx_producer.specs.Verdicts.{sequence_behind, verdict, verdict_behind, verdict_in}
use Rattle.kx_producer.specs.declared.noted.RememberedBatch.{RememberedBatch}
use Rattle.kx_producer.specs.declared.verdict.Verdict.{Verdict}
use Rattle.kx_producer.specs.declared.verdict.Verdict.TheVariants.{Next, OldEpoch, OutOfOrder}
use Rattle.kx_producer.proofs.Following.{IsAbove, above_none, above_some, equal, higher, less}
use Rattle.kx_producer.proofs.Following.{lower}
use Rattle.kx_producer.proofs.Following.{no_batches, no_marker, order, other_epoch, same_id, Order}
use Rattle.kx_producer.proofs.Batches.{last_of_few}

------ the entries of a log

items_placed : (n : ℕ) (log : List Entry) → items (placed_by width n log) ≡ log
items_placed n [] = refl
items_placed n (entry ∷ log) = ap (λ l. entry ∷ l) (items_placed (n + width entry) log)

batches_placed : (log : List Entry) (id epoch : ℕ)
    → batches_of log id epoch ≡ batches_in (placed log) id epoch
unfolding batches_of
batches_placed log id epoch = refl

-- what is kept of an id, by the log's epoch of it
known_by : (table : Table) (log : List Entry) (id : ℕ) → StandsFor table (placed log)
    → known_of table id ≡ known_at (placed log) id (epoch_of log id)
known_by table log id stands =
    stands.known id
    ∙ ap (λ l. known_at (placed log) id (epoch_of l id)) (items_placed 0 log)

none_above : (log : List Entry) (id epoch : ℕ) → IsAbove epoch (epoch_of log id)
    → batches_of log id epoch ≡ []
none_above log id epoch above =
    batches_placed log id epoch
    ∙ no_batches (placed log) id epoch
    (subst (λ l. IsAbove epoch (epoch_of l id)) (sym (items_placed 0 log)) above)

------ batches

sequence_same : (batches : List (Placed Sequenced))
    → sequence_behind (map remembered_of batches) ≡ pos (sequence_after batches)
sequence_same [] = refl
sequence_same (p ∷ []) = refl
sequence_same (p ∷ q ∷ rest) = sequence_same (q ∷ rest)

sequence_dropped : (k : ℕ) (batches : List (Placed Sequenced)) → k < length batches
    → sequence_after (drop k batches) ≡ sequence_after batches
sequence_dropped zero batches h = refl
sequence_dropped (suc k) [] h = absurd (omega (arith, h))
sequence_dropped (suc k) (p ∷ []) h = absurd (omega (arith, h))
sequence_dropped (suc k) (p ∷ q ∷ rest) h = sequence_dropped k (q ∷ rest) (omega (arith, h))

-- the last five tell the sequence that comes next
sequence_kept : (batches : List (Placed Sequenced))
    → sequence_after (last_of 5 batches) ≡ sequence_after batches
sequence_kept [] = ap sequence_after (last_of_few 5 [] (omega arith))
sequence_kept (p ∷ rest) =
    sequence_dropped (length (p ∷ rest) - 5) (p ∷ rest) (omega arith)

same_int : (a b : ℕ) → int_eq (pos a) (pos b) ≡ (a == b)
same_int a b = at (int_eq (pos a) (pos b)) (a == b) refl refl
  where
    at : (s t : Bool) → int_eq (pos a) (pos b) ≡ s → (a == b) ≡ t → s ≡ t
    at true true e f = refl
    at false false e f = refl
    at true false e f =
        let same : pos a ≡ pos b = (Decides-int_eq (pos a) (pos b)).0 e in
        let equal : a ≡ b = cc in
        absurd (grind (arith, nat_tests))
    at false true e f =
        let equal : a ≡ b = grind (arith, nat_tests) in
        let is : int_eq (pos a) (pos b) ≡ true =
        (Decides-int_eq (pos a) (pos b)).1 (ap pos equal) in
        absurd (cc)

found_same : (first last : ℕ) (batches : List (Placed Sequenced))
    → find (has_sequences (pos first) (pos last)) (map remembered_of batches)
    ≡ option_map remembered_of
    (find (λ p. (p.item.first == first) && (last_sequence p.item == last)) batches)
found_same first last [] = refl
found_same first last (p ∷ batches) =
    ap (λ b. cond b (Some (remembered_of p))
    (find (has_sequences (pos first) (pos last)) (map remembered_of batches)))
    (ap (λ b. b && int_eq (pos (last_sequence p.item)) (pos last)) (same_int p.item.first first)
    ∙ ap (λ b. (p.item.first == first) && b) (same_int (last_sequence p.item) last))
    ∙ at ((p.item.first == first) && (last_sequence p.item == last))
    (found_same first last batches)
  where
    at : (b : Bool) → find (has_sequences (pos first) (pos last)) (map remembered_of batches)
        ≡ option_map remembered_of
        (find (λ q. (q.item.first == first) && (last_sequence q.item == last)) batches)
        → cond b (Some (remembered_of p))
        (find (has_sequences (pos first) (pos last)) (map remembered_of batches))
        ≡ option_map remembered_of (cond b (Some p)
        (find (λ q. (q.item.first == first) && (last_sequence q.item == last)) batches))
    at true e = refl
    at false e = e

-- the sequences are those that come next
in_turn_same : (next first last : ℕ)
    → in_turn (pos next) (pos first) (pos last)
    ≡ cond (not (first == next) || nat_lt greatest_sequence last) OutOfOrder Next
in_turn_same next first last =
    ap (λ b. cond (b && nat_le last greatest_sequence) Next OutOfOrder) (same_int first next)
    ∙ at (first == next) (nat_le last greatest_sequence) (nat_lt greatest_sequence last)
    (grind (arith, nat_tests))
  where
    at : (is low high : Bool) → low ≡ not high
        → cond (is && low) Next OutOfOrder ≡ cond (not is || high) OutOfOrder Next
    at true true true e = absurd (cc)
    at true true false e = refl
    at true false true e = refl
    at true false false e = absurd (cc)
    at false low high e = refl

duplicate_same : (o : Option (Placed Sequenced)) (v w : Verdict) → v ≡ w
    → duplicate_or (option_map remembered_of o) v ≡ duplicate_at o w
duplicate_same None v w e = e
duplicate_same (Some p) v w e = refl

-- by the batches that are remembered of its epoch
behind_same : (log : List Entry) (batch : Sequenced) (kept : List RememberedBatch)
    → kept ≡ map remembered_of (remembered log batch.id batch.epoch)
    → verdict_behind kept (pos batch.first) (pos (last_sequence batch))
    ≡ duplicate_at (same_batch batch (remembered log batch.id batch.epoch))
    (cond (is_out_of_order log batch) OutOfOrder Next)
behind_same log batch kept e =
    ap (λ l. verdict_behind l (pos batch.first) (pos (last_sequence batch))) e
    ∙ ap (λ o. duplicate_or o (in_turn
    (sequence_behind (map remembered_of (remembered log batch.id batch.epoch)))
    (pos batch.first) (pos (last_sequence batch))))
    (found_same batch.first (last_sequence batch) (remembered log batch.id batch.epoch))
    ∙ duplicate_same (same_batch batch (remembered log batch.id batch.epoch)) _ _
    (ap (λ z. in_turn z (pos batch.first) (pos (last_sequence batch)))
    (sequence_same (remembered log batch.id batch.epoch)
    ∙ ap pos (sequence_kept (batches_of log batch.id batch.epoch)))
    ∙ in_turn_same (expected log batch.id batch.epoch) batch.first (last_sequence batch))

-- no batch of its epoch came
first_same : (log : List Entry) (batch : Sequenced)
    → IsAbove batch.epoch (epoch_of log batch.id)
    → verdict_behind [] (pos batch.first) (pos (last_sequence batch))
    ≡ duplicate_at (same_batch batch (remembered log batch.id batch.epoch))
    (cond (is_out_of_order log batch) OutOfOrder Next)
first_same log batch above =
    behind_same log batch []
    (sym (ap (λ l. map remembered_of (last_of 5 l))
    (none_above log batch.id batch.epoch above)
    ∙ ap (map remembered_of) (last_of_few 5 [] (omega arith))))

pub verdict_same : (table : Table) (log : List Entry) (batch : Sequenced)
    → StandsFor table (placed log)
    → verdict (known_of table batch.id) batch.epoch (pos batch.first) (pos (last_sequence batch))
    ≡ verdict_in log batch
verdict_same table log batch stands =
    ap (λ k. verdict k batch.epoch (pos batch.first) (pos (last_sequence batch)))
    (known_by table log batch.id stands)
    ∙ at (epoch_of log batch.id) refl
  where
    else_by : Verdict
    else_by =
        duplicate_at (same_batch batch (remembered log batch.id batch.epoch))
        (cond (is_out_of_order log batch) OutOfOrder Next)

    by : (epoch : ℕ) → epoch_of log batch.id ≡ Some epoch → Order epoch batch.epoch
        → cond (nat_lt batch.epoch epoch) OldEpoch (verdict_behind
        (cond (epoch == batch.epoch)
        (map remembered_of (last_of 5 (batches_in (placed log) batch.id epoch))) [])
        (pos batch.first) (pos (last_sequence batch)))
        ≡ cond (nat_lt batch.epoch epoch) OldEpoch else_by
    by epoch e (higher h) =
        ap (λ b. cond b OldEpoch (verdict_behind (cond (epoch == batch.epoch)
        (map remembered_of (last_of 5 (batches_in (placed log) batch.id epoch))) [])
        (pos batch.first) (pos (last_sequence batch)))) (less batch.epoch epoch h)
        ∙ sym (ap (λ b. cond b OldEpoch else_by) (less batch.epoch epoch h))
    by epoch e (equal h) =
        ap (λ v. cond (nat_lt batch.epoch epoch) OldEpoch v)
        (behind_same log batch _
        (ap (λ b. cond b (map remembered_of (last_of 5 (batches_in (placed log) batch.id epoch)))
        []) (ap (λ n. n == batch.epoch) h ∙ same_id batch.epoch)
        ∙ ap (λ n. map remembered_of (last_of 5 (batches_in (placed log) batch.id n))) h
        ∙ ap (λ l. map remembered_of (last_of 5 l))
        (sym (batches_placed log batch.id batch.epoch))))
    by epoch e (lower h) =
        ap (λ v. cond (nat_lt batch.epoch epoch) OldEpoch v)
        (ap (λ b. verdict_behind (cond b
        (map remembered_of (last_of 5 (batches_in (placed log) batch.id epoch))) [])
        (pos batch.first) (pos (last_sequence batch)))
        (other_epoch epoch batch.epoch (λ k. omega (arith, h, k)))
        ∙ first_same log batch (subst (IsAbove batch.epoch) (sym e) (above_some epoch h)))

    at : (o : Option ℕ) → epoch_of log batch.id ≡ o
        → verdict (known_at (placed log) batch.id o) batch.epoch (pos batch.first)
        (pos (last_sequence batch)) ≡ cond (is_below batch.epoch o) OldEpoch else_by
    at None e = first_same log batch (subst (IsAbove batch.epoch) (sym e) above_none)
    at (Some epoch) e = by epoch e (order epoch batch.epoch)

pub epoch_same : (table : Table) (log : List Entry) (id : ℕ) → StandsFor table (placed log)
    → option_map (λ known. known.epoch) (known_of table id) ≡ epoch_of log id
epoch_same table log id stands =
    ap (option_map (λ known. known.epoch)) (known_by table log id stands)
    ∙ at (epoch_of log id)
  where
    at : (o : Option ℕ) → option_map (λ known. known.epoch) (known_at (placed log) id o) ≡ o
    at None = refl
    at (Some epoch) = refl

pub marked_same : (table : Table) (log : List Entry) (id : ℕ) → StandsFor table (placed log)
    → marked_in (known_of table id) ≡ marked_by log id
marked_same table log id stands =
    ap marked_in (known_by table log id stands) ∙ at (epoch_of log id) refl
  where
    at : (o : Option ℕ) → epoch_of log id ≡ o
        → marked_in (known_at (placed log) id o) ≡ marked_by log id
    at None e = sym (no_marker log id e)
    at (Some epoch) e = ap (λ l. marked_by l id) (items_placed 0 log)
