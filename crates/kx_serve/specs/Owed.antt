-- Which partitions the coordinator's rows need: those of each transaction that is under way, or whose
-- markers weren't all answered.
use Rattle.std.specs.Prelude.{◌≡◌, ◌<◌, ◌==◌, ◌&&◌, ℕ, Bool, true, false, List, map, not}
use Rattle.std.specs.List.{list_any}
use Rattle.kx_message.specs.Ranges.{data_partitions, offsets_partition}
use Rattle.kx_model.specs.Coordinator as model
use Rattle.kx_model.specs.Coordinator.{TxnEntry}
use Rattle.kx_txnlog.specs.Entry.{row_of}
use Rattle.kx_txnlog.specs.declared.entry.Row.{Row}
use Rattle.kx_txnlog.specs.declared.state.State.{State}
use Rattle.kx_txnlog.specs.declared.state.State.TheVariants as state

abbrev pub is_owed : State → Bool
is_owed state.Empty = false
is_owed state.Ongoing = true
is_owed (state.Prepare outcome) = true
is_owed (state.Complete outcome) = false

-- the row needs the partition
abbrev pub needs : ℕ → Row → Bool
needs partition row = is_owed row.state && list_any (λ p. p == partition) row.partitions

-- a row needs the partition, which isn't among these
abbrev pub is_missing : List Row → List ℕ → ℕ → Bool
is_missing rows kept partition =
    not (list_any (λ p. p == partition) kept) && list_any (needs partition) rows

-- each partition that a row needs is among these
pub record NothingMissing (rows : List Row) (kept : List ℕ) : Type 0 where
  pub data_partition : (number : ℕ) → number < data_partitions
      → is_missing rows kept number ≡ false
  pub offsets : is_missing rows kept offsets_partition ≡ false

-- each partition that a row of the log needs is among these
pub record HasAll (kept : List ℕ) (notes : List TxnEntry) : Type 0 where
  pub rows : List Row
  pub rows_are : map row_of rows ≡ model.rows notes
  pub nothing : NothingMissing rows kept
