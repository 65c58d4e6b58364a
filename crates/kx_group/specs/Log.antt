-- The offsets partition's log as the groups' tables grow it (KIP-447): behind each batch that the
-- partition takes, the groups judge what it says.
use Rattle.std.specs.Prelude.{◌≡◌, ◌++◌, ℕ, ◌-◌, ◌^◌, Bool, true, false, List, [], ◌∷◌, length, min}
use Rattle.std.specs.Prelude.{Option, Some, None}
use Rattle.std.specs.List.{AllByRecursion}
use Rattle.kx_batch.specs.Record.{Record}
use Rattle.kx_log.specs.Log.{texts}
use Rattle.kx_members.specs.Follows.{Makes}
use Rattle.kx_model.specs.Groups.{Fact, Offset, Joined, Left, Dropped, fact_of}
use Rattle.kx_model.specs.Log.{Entry, Plain, Data, Control, Marker, Sequenced, Stored, entries}
use Rattle.kx_model.specs.Log.{entry_of}

abbrev pub is_offset : Option Fact → Bool
is_offset None = false
is_offset (Some (Offset group partition offset)) = true
is_offset (Some (Joined group member)) = false
is_offset (Some (Left group member)) = false
is_offset (Some (Dropped group member)) = false

-- what the groups append behind a log: one change of members, the offsets of a transaction's batch,
-- or a transaction's end
pub data IsFitting (log : List Entry) : Entry → Type 0 where
  FitsChange : (r : Record) (fact : Fact) → fact_of r ≡ Some fact → Makes log fact
      → IsFitting log (Plain (r ∷ []))
  FitsOffsets : (batch : Sequenced) → batch.transactional ≡ true
      → AllByRecursion (λ r. is_offset (fact_of r) ≡ true) batch.records
      → IsFitting log (Data batch)
  FitsMarker : (marker : Marker) → IsFitting log (Control marker)

-- each batch was one that the groups append behind those before it
pub data IsGroupLog : List Stored → Type 0 where
  NoBatch : IsGroupLog []
  WithBatch : (log : List Stored) (stored : Stored) → IsGroupLog log
      → IsFitting (entries log) (entry_of stored) → IsGroupLog (log ++ stored ∷ [])

-- the groups don't append a batch of the log behind those before it: the first such, which begins
-- at this byte, where a number of 64 bits can say it
pub record IsUnfit (log : List Stored) (place : ℕ) : Type 0 where
  pub before : List Stored
  pub stored : Stored
  pub behind : List Stored
  pub parts : log ≡ before ++ stored ∷ behind
  pub fits : IsGroupLog before
  pub refused : IsFitting (entries before) (entry_of stored) → ⊥
  pub place_is : place ≡ min (length (texts before)) (2 ^ 64 - 1)
