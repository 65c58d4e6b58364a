-- A batch of the offsets partition's log that is read again.
use Rattle.std.specs.Prelude.{◌≡◌, ◌≤◌, ◌+◌, ◌++◌, ℕ, pos, Bool, true, false, List, [], ◌∷◌}
use Rattle.std.specs.Prelude.{Option, None}
use Rattle.kx_batch.specs.Batch.{is_transactional}
use Rattle.kx_batch.specs.Record.{Record}
use Rattle.kx_laws.specs.Grown.{IsGrown, IsTaken}
use Rattle.kx_model.specs.Groups.{Fact, fact_of}
use Rattle.kx_model.specs.Log.{Data, Plain, Sequenced, Stored, end, entries, entry_of}
use Rattle.kx_model.specs.Log.{stored_width}
use Rattle.kx_model.specs.Produce.{Next, greatest_offset, judge}
use Rattle.kx_group.specs.Internal.Kept.{IsKept}
use Rattle.kx_group.specs.Log.{IsFitting}
use Rattle.kx_group.specs.declared.notes.Notes.{Notes}

-- the partition appended the batch behind this log, of which this is kept
pub record ComesNext (log : List Stored) (notes : Notes) (stored : Stored) : Type 0 where
  pub kept : IsKept log notes
  pub grown : IsGrown log
  pub at : stored.batch.base_offset ≡ pos (end (entries log))
  pub taken : IsTaken (entries log) stored.batch
  pub room : end (entries log) + stored_width stored ≤ greatest_offset

-- the groups append the batch and it is noted, or they don't append it
abbrev pub IsFittingIf : Bool → List Stored → Stored → Notes → Type 0
IsFittingIf true log stored notes = IsKept (log ++ stored ∷ []) notes
IsFittingIf false log stored notes = IsFitting (entries log) (entry_of stored) → ⊥

-- it is a batch of no producer to the rules
abbrev pub IsPlain : Stored → Type 0
IsPlain stored = entry_of stored ≡ Plain stored.batch.records

-- it is a batch of this producer to the rules, and was the next behind this log
pub record IsDataOf (log : List Stored) (id : ℕ) (stored : Stored) : Type 0 where
  pub batch : Sequenced
  pub entry_is : entry_of stored ≡ Data batch
  pub id_is : batch.id ≡ id
  pub transactional_is : batch.transactional ≡ is_transactional stored.batch
  pub records_are : batch.records ≡ stored.batch.records
  pub next : judge (entries log) true batch ≡ Next

-- what the only record says
abbrev pub only_fact : List Record → Option Fact
only_fact [] = None
only_fact (r ∷ []) = fact_of r
only_fact (r ∷ other ∷ records) = None
