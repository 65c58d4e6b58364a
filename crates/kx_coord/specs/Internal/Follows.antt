-- What the coordinator keeps of its log, so that no request reads the log.
use Rattle.std.specs.Prelude.{◌≡◌, ◌≤◌, ℕ, ℤ, List, map, option_map, bytes_eq}
use Rattle.std.specs.List.{AllByRecursion}
use Rattle.std.specs.Map.{lookup}
use Rattle.kx_model.specs.Coordinator as model
use Rattle.kx_model.specs.Coordinator.{TxnEntry, next_id, rows, coordinator_epoch}
use Rattle.kx_model.specs.CoordinatorNode.{id_limit}
use Rattle.kx_txnlog.specs.Entry.{row_of}
use Rattle.kx_txnlog.specs.declared.entry.Row.{Row}

-- the last row of each transactional id, found by it, in order of first use; the next id; and the
-- coordinator's epoch
pub record Follows (log : List TxnEntry) (entries : List (List ℕ × Row)) (next : ℕ) (epoch : ℤ)
    : Type 0 where
  pub row_is : (txn : List ℕ)
      → model.row_of log txn ≡ option_map row_of (lookup (bytes_eq txn) entries)
  pub keyed : AllByRecursion (λ e. e.0 ≡ e.1.txn) entries
  pub rows_are : map (λ e. row_of e.1) entries ≡ rows log
  pub next_is : next ≡ next_id log
  pub next_fits : next ≤ id_limit
  pub epoch_is : epoch ≡ coordinator_epoch log
