-- What is kept of groups' offsets in two tables: by group and input partition, and by producer id.
use Rattle.std.specs.Prelude.{◌≡◌, ℕ, Bool, true, List, [], All, bytes_eq, is_some}
use Rattle.std.specs.Prelude.{min, nat_eq, unwrap_or}
use Rattle.std.specs.Map.{lookup}
use Rattle.std.specs.Ordering.{on, eq_of_both}
use Rattle.kx_commits.specs.Kept.{Kept, Said, Slot, empty_slot}

-- a group and an input partition
abbrev pub Key : Type 0
Key = List ℕ × ℕ

abbrev pub same_key : Key → Key → Bool
same_key = eq_of_both (on (λ k. k.0) bytes_eq) (on (λ k. k.1) nat_eq)

-- the slots, and how many more may come before memory is asked for
pub record SlotTable : Type 0 where
  pub entries : List (Key × Slot)
  pub room : ℕ

abbrev pub slot_in : SlotTable → Key → Slot
slot_in table key = unwrap_or (lookup (same_key key) table.entries) empty_slot

abbrev pub has_slot : SlotTable → Key → Bool
has_slot table key = is_some (lookup (same_key key) table.entries)

abbrev pub key_of : Said → Key
key_of said = (said.group, said.partition)

-- the offsets that wait for a transaction, and how many more may before memory is asked for
pub record Waiting : Type 0 where
  pub said : List Said
  pub room : ℕ

abbrev pub none_waiting : Waiting
none_waiting = record { said = []; room = 0 }

-- by producer id
abbrev pub WaitingTable : Type 0
WaitingTable = List (ℕ × Waiting)

abbrev pub waiting_in : WaitingTable → ℕ → Waiting
waiting_in table id = unwrap_or (lookup (nat_eq id) table) none_waiting

pub record Table : Type 0 where
  pub slots : SlotTable
  pub waiting : WaitingTable

abbrev pub kept_of : Table → Kept
kept_of table = record {
  slot = λ group partition. slot_in table.slots (group, partition);
  waiting = λ id. (waiting_in table.waiting id).said;
}

-- for how many more offsets of a producer id there is room
abbrev pub room_for : Table → ℕ → ℕ
room_for table id = min (waiting_in table.waiting id).room table.slots.room

-- each offset that waits has its slot
abbrev pub HasSlots : Table → Type 0
HasSlots table = (id : ℕ)
    → All (λ s. has_slot table.slots (key_of s) ≡ true) (waiting_in table.waiting id).said
