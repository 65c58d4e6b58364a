-- The verdict on the epoch and the sequences of a batch, by what is known of its producer (KIP-98,
-- "Idempotent Producer Guarantees").
use Rattle.std.specs.Prelude.{ℕ, ℤ, pos, ◌+ℤ◌, Bool, ◌&&◌, List, [], ◌∷◌, find, Option, Some, None}
use Rattle.std.specs.Prelude.{int_le, nat_lt, ◌==◌, if◌then◌else◌}
use Rattle.std.specs.Ordering.{int_eq}
use Rattle.kx_model.specs.Log.{Entry, Placed, Sequenced}
use Rattle.kx_model.specs.Produce.{greatest_sequence, is_below, is_out_of_order, same_batch}
use Rattle.kx_model.specs.Producers.{epoch_of, remembered}
use Rattle.kx_producer.specs.Known.{Known}
use Rattle.kx_producer.specs.declared.noted.RememberedBatch.{RememberedBatch}
use Rattle.kx_producer.specs.declared.verdict.Verdict.{Verdict}
use Rattle.kx_producer.specs.declared.verdict.Verdict.TheVariants.{Next, Duplicate, OldEpoch}
use Rattle.kx_producer.specs.declared.verdict.Verdict.TheVariants.{OutOfOrder}

-- one above the last sequence of the newest, 0 if there is none
abbrev pub sequence_behind : List RememberedBatch → ℤ
sequence_behind [] = pos 0
sequence_behind (batch ∷ []) = batch.last +ℤ pos 1
sequence_behind (batch ∷ other ∷ rest) = sequence_behind (other ∷ rest)

-- it is the next, and its sequences don't run out
abbrev pub in_turn : ℤ → ℤ → ℤ → Verdict
in_turn expected first last =
    if int_eq first expected && int_le last (pos greatest_sequence) then Next else OutOfOrder

abbrev pub has_sequences : ℤ → ℤ → RememberedBatch → Bool
has_sequences first last batch = int_eq batch.first first && int_eq batch.last last

abbrev pub duplicate_or : Option RememberedBatch → Verdict → Verdict
duplicate_or None verdict = verdict
duplicate_or (Some batch) verdict = Duplicate batch.offset

-- by the batches that are remembered of its epoch
abbrev pub verdict_behind : List RememberedBatch → ℤ → ℤ → Verdict
verdict_behind batches first last =
    duplicate_or (find (has_sequences first last) batches)
    (in_turn (sequence_behind batches) first last)

abbrev pub remembered_at : ℕ → Known → List RememberedBatch
remembered_at epoch known = if known.epoch == epoch then known.remembered else []

abbrev pub verdict_of : Known → ℕ → ℤ → ℤ → Verdict
verdict_of known epoch first last =
    if nat_lt epoch known.epoch then OldEpoch
    else verdict_behind (remembered_at epoch known) first last

abbrev pub verdict : Option Known → ℕ → ℤ → ℤ → Verdict
verdict None epoch first last = verdict_behind [] first last
verdict (Some known) epoch first last = verdict_of known epoch first last

------ a log

abbrev pub duplicate_at : Option (Placed Sequenced) → Verdict → Verdict
duplicate_at None verdict = verdict
duplicate_at (Some p) verdict = Duplicate (pos p.offset)

-- the lines of the produce table on epochs and sequences
abbrev pub verdict_in : List Entry → Sequenced → Verdict
verdict_in log batch =
    if is_below batch.epoch (epoch_of log batch.id) then OldEpoch
    else duplicate_at (same_batch batch (remembered log batch.id batch.epoch))
    (if is_out_of_order log batch then OutOfOrder else Next)
