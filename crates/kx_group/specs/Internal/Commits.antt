-- What is noted of the offsets of one batch, and requests as the commits of offsets that they are.
use Rattle.std.specs.Prelude.{◌≡◌, ◌≤◌, ◌+◌, ◌^◌, ◌⊎◌, ℕ, ℤ, pos, true, List, [], Option}
use Rattle.std.specs.Prelude.{filter_map}
use Rattle.kx_varint.specs.Text.{◌>>=◌}
use Rattle.kx_batch.specs.Record.{Record}
use Rattle.kx_commits.specs.Follows.{said_in}
use Rattle.kx_commits.specs.Kept.{Kept, Said}
use Rattle.kx_log.specs.LogState.{LogState}
use Rattle.kx_message.specs.declared.message.Held.{Held}
use Rattle.kx_message.specs.declared.message.Message.TheVariants as msg
use Rattle.kx_message.specs.declared.requests.TxnOffsetCommit.{TxnOffsetCommit}
use Rattle.kx_model.specs.Groups.{fact_of}
use Rattle.kx_model.specs.Log.{entries}
use Rattle.kx_model.specs.Producers.{expected}
use Rattle.kx_model.specs.Verification.{Parked, Target, ToPartition, ToGroup}
use Rattle.kx_offsets.specs.Facts.{CommitFits}
use Rattle.kx_verify.specs.Request.{IsParked}

-- the offset that a record of a batch at this offset says, if it says one
abbrev pub said_by : ℕ → Record → Option Said
said_by at r = do
  fact ← fact_of r
  said_in at fact

-- those that the records of a batch say
abbrev pub said_of : ℕ → List Record → List Said
said_of at records = filter_map (said_in at) (filter_map fact_of records)

-- so many more offsets of any group and input partition may be pending
pub record MayWait (kept : Kept) (count : ℕ) : Type 0 where
  pub few : (group : List ℕ) (partition : ℕ)
      → (kept.slot group partition).pending + count ≤ 2 ^ 63

-- the text of the batch that is to be appended for a request, if it is a commit of offsets
abbrev pub commit_text : List ℕ → Target → List ℕ
commit_text text (ToPartition partition) = []
commit_text text (ToGroup group member generation) = text

abbrev pub text_for : Parked → List ℕ
text_for parked = commit_text parked.request.text parked.request.target

-- the commit is the message of the request, and what it holds fits its fields
pub record IsCommitFor (commit : TxnOffsetCommit) (parked : Parked) : Type 0 where
  pub parks : IsParked (msg.TxnOffsetCommit commit) parked
  pub fits : CommitFits commit.group commit.held commit.first_sequence commit.offsets

-- of this id and epoch, and this first sequence, none comes next: the log is closed, or another
-- sequence is expected
abbrev pub IsOver : Held → ℤ → LogState → Type 0
IsOver held first log = (log.closed ≡ true)
    ⊎ (first ≡ pos (expected (entries log.batches) held.id held.epoch) → ⊥)
