-- How what is kept of groups' offsets follows the offsets partition's log.
use Rattle.std.specs.Prelude.{◌≡◌, ℕ, ℤ, true, Bool, List, map, filter}
use Rattle.std.specs.Prelude.{filter_map, flat_map, length, Option, Some, None, ◌==◌}
use Rattle.std.specs.List.{AllByRecursion, last_or}
use Rattle.kx_model.specs.Groups.{Fact, Offset, Joined, Left, Dropped, fact_of}
use Rattle.kx_model.specs.Log.{Entry, Plain, Data, Control, Placed, Sequenced, placed}
use Rattle.kx_model.specs.Producers.{data_in}
use Rattle.kx_model.specs.Transactions.{has_commit, unclosed}
use Rattle.kx_commits.specs.Kept.{Kept, Said, Slot, is_for}

-- what a record of a batch at this offset says, if it says an offset
abbrev pub said_in : ℕ → Fact → Option Said
said_in at (Offset group partition offset) =
    Some (record { group = group; partition = partition; offset = offset; at = at })
said_in at (Joined group member) = None
said_in at (Left group member) = None
said_in at (Dropped group member) = None

-- the offsets that a batch says, in order
abbrev pub said_by : Placed Sequenced → List Said
said_by p = filter_map (said_in p.offset) (filter_map fact_of p.item.records)

-- those of the batches whose transaction has its commit marker
abbrev pub counting : List Entry → List Said
counting log = flat_map said_by
    (filter (λ p. has_commit log p.item.id p.item.epoch) (data_in (placed log)))

-- those of open transactions
abbrev pub pending : List Entry → List Said
pending log = flat_map said_by (unclosed log)

abbrev pub last_of : List Said → Option (ℤ × ℕ)
last_of said = last_or None (map (λ s. (s.offset, s.at)) said)

-- a group and an input partition by the log
abbrev pub slot_of : List Entry → List ℕ → ℕ → Slot
slot_of log group partition = record {
  committed = last_of (filter (is_for group partition) (counting log));
  pending = length (filter (is_for group partition) (pending log));
}

-- the offsets of the open transaction of a producer id, by the log
abbrev pub waiting_of : List Entry → ℕ → List Said
waiting_of log id = flat_map said_by (filter (λ p. p.item.id == id) (unclosed log))

-- what is kept is that of the log
pub record StandsFor (kept : Kept) (log : List Entry) : Type 0 where
  pub slots : (group : List ℕ) (partition : ℕ)
      → kept.slot group partition ≡ slot_of log group partition
  pub waiting : (id : ℕ) → kept.waiting id ≡ waiting_of log id

-- each batch of a producer with an id is one of a transaction
abbrev pub is_in_transaction : Entry → Bool
is_in_transaction (Plain records) = true
is_in_transaction (Data batch) = batch.transactional
is_in_transaction (Control marker) = true

abbrev pub AllInTransactions : List Entry → Type 0
AllInTransactions log = AllByRecursion (λ e. is_in_transaction e ≡ true) log
