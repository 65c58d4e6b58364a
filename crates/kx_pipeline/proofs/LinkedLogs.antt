-- What a commit of an offset rests on, as the offsets partition's log shows it.
use Rattle.std.proofs.Common.{◌≡◌, ℕ, ℤ, pos, ◌<ℤ◌, true, false, List, [], ◌∷◌, ◌++◌}
use Rattle.kx_model.specs.Groups.{is_pending, marked_offset, offsets_in}
use Rattle.kx_model.specs.Log.{Entry, Data, Sequenced}
use Rattle.kx_system.specs.Processor.{from_offset}
use Rattle.kx_pipeline.specs.Chain.{has_offset, offset_batches}

-- what a commit of an offset rests on: a part of the log in front of it, in which no offset of the
-- group and input partition was pending, from whose committed offset its transaction read, and
-- behind which none came before it
pub record Link (from : ℤ) (before : List Entry) (group : List ℕ) (q : ℕ)
    (batch : Sequenced) : Type 0 where
  pub read : List Entry
  pub between : List Entry
  pub parts : before ≡ read ++ between
  pub none_pending : is_pending read group q ≡ false
  pub none_between : offset_batches group q between ≡ []
  pub from_is : from ≡ pos (from_offset (marked_offset read group q))
  pub offset : ℤ
  pub only : offsets_in group q batch ≡ offset ∷ []
  pub grows : from <ℤ offset
  pub transactional : batch.transactional ≡ true

-- each batch with an offset of the group and input partition rests on such a part, and its
-- transaction read from where this function says
abbrev pub AreLinkedIn : (Sequenced → ℤ) → List Entry → List ℕ → ℕ → Type 0
AreLinkedIn from_of log group q =
    (before behind : List Entry) (batch : Sequenced)
    → log ≡ before ++ Data batch ∷ behind → has_offset group q batch ≡ true
    → Link (from_of batch) before group q batch
