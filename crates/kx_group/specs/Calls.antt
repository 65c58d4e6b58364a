-- What groups answer, and what they append to the offsets partition's log (KIP-447; Kafka's
-- protocol guide, "JoinGroup", "LeaveGroup", "TxnOffsetCommit").
use Rattle.std.specs.Prelude.{◌≡◌, ℕ, ℤ, pos, Bool, true, List, [], ◌∷◌, ◌++◌, All}
use Rattle.kx_batch.specs.Batch.{batch_of}
use Rattle.kx_log.specs.LogState.{LogState}
use Rattle.kx_message.specs.declared.code.ErrorCode.{ErrorCode}
use Rattle.kx_message.specs.declared.code.ErrorCode.TheVariants.{NoError, UnknownTopicOrPartition}
use Rattle.kx_message.specs.declared.message.Held.{Held}
use Rattle.kx_message.specs.declared.requests.TxnOffsetCommit.{TxnOffsetCommit}
use Rattle.kx_model.specs.Groups.{Membership, Already, Refuses, Changes, generation}
use Rattle.kx_model.specs.Groups.{is_member, judge_offsets, membership_text, offsets_batch}
use Rattle.kx_model.specs.Log.{Entry, entries}
use Rattle.kx_model.specs.Produce.{Verdict, Next, Refused}
use Rattle.kx_model.specs.Verification.{Parked, Target, ToPartition, ToGroup, judge_request}
use Rattle.kx_partition.specs.Answer.{FollowsVerdict, IsProduced, code_of, unless_closed}
use Rattle.kx_partition.specs.Answer.{verdict_at}
use Rattle.kx_partition.specs.declared.answer.Produced.{Produced}

------ members

-- a batch of no producer is appended, or answered as a partition answers it
pub record IsPut (text : List ℕ) (old new : LogState) (code : ErrorCode) : Type 0 where
  pub answer : Produced
  pub produced : IsProduced text true old new answer
  pub code_is : code ≡ code_of answer

-- what becomes of a change of members, by the verdict on it
abbrev pub IsChanged : Membership → LogState → LogState → ErrorCode → Type 0
IsChanged Already old new code = (code ≡ NoError) × (new ≡ old)
IsChanged (Refuses refused) old new code = (code ≡ refused) × (new ≡ old)
IsChanged (Changes fact) old new code = IsPut (membership_text fact) old new code

-- memory may be wanted: the change is to be appended
abbrev pub WantsMemory : Membership → LogState → Type 0
WantsMemory Already log = ⊥
WantsMemory (Refuses refused) log = ⊥
WantsMemory (Changes fact) log = verdict_at log true (membership_text fact) ≡ Next

------ offsets in a transaction

abbrev pub text_of : TxnOffsetCommit → List ℕ
text_of it = offsets_batch it.group it.held it.first_sequence it.offsets

-- the verdict on offsets, if a closed log appends nothing
abbrev pub verdict_on : LogState → Bool → TxnOffsetCommit → Verdict
verdict_on log verified it = unless_closed log.closed
    (judge_offsets (entries log.batches) verified it.group it.member it.generation (text_of it))

-- its client is a member of the group, of this generation
pub record IsCurrent (log : List Entry) (it : TxnOffsetCommit) : Type 0 where
  pub member : is_member log it.group it.member ≡ true
  pub generation : it.generation ≡ pos (generation log it.group)

abbrev pub IsCommitted : TxnOffsetCommit → Bool → LogState → LogState → Produced → Type 0
IsCommitted it verified old new = FollowsVerdict (verdict_on old verified it) (text_of it) old new

------ requests that were parked

-- it is a commit of offsets
abbrev pub IsToGroup : Target → Type 0
IsToGroup (ToPartition partition) = ⊥
IsToGroup (ToGroup group member generation) = Unit {0}

-- a commit of offsets of this id and epoch, which begins at this sequence
pub record IsCommitOf (held : Held) (first : ℤ) (parked : Parked) : Type 0 where
  pub held_is : parked.held ≡ held
  pub target : IsToGroup parked.request.target
  pub first_is : (batch_of parked.request.text).base_sequence ≡ first

-- they are commits of one id and epoch, which begin at one sequence
pub record AreAlike (requests : List Parked) : Type 0 where
  pub held : Held
  pub first : ℤ
  pub each : All (IsCommitOf held first) requests

-- the verdict on a parked request, which the coordinator has verified
abbrev pub verdict_again : LogState → Parked → Verdict
verdict_again log parked =
    unless_closed log.closed (judge_request (entries log.batches) true parked.request)

-- the offsets partition takes no batch of another partition
abbrev pub verdict_for : LogState → Parked → Target → Verdict
verdict_for log parked (ToPartition partition) = Refused UnknownTopicOrPartition
verdict_for log parked (ToGroup group member generation) = verdict_again log parked

abbrev pub verdict_here : LogState → Parked → Verdict
verdict_here log parked = verdict_for log parked parked.request.target

-- each in turn, with every check made again, by this verdict on it
pub data IsResumedBy (verdict : LogState → Parked → Verdict)
    : List Parked → LogState → LogState → List Produced → Type 0 where
  NoneLeft : (log : LogState) → IsResumedBy verdict [] log log []
  OneMore : (parked : Parked) (rest : List Parked) (old between new : LogState)
      (answer : Produced) (answers : List Produced)
      → FollowsVerdict (verdict old parked) parked.request.text old between answer
      → IsResumedBy verdict rest between new answers
      → IsResumedBy verdict (parked ∷ rest) old new (answer ∷ answers)

-- at a partition
abbrev pub IsResumed : List Parked → LogState → LogState → List Produced → Type 0
IsResumed = IsResumedBy verdict_again

-- at the offsets partition
abbrev pub IsResumedHere : List Parked → LogState → LogState → List Produced → Type 0
IsResumedHere = IsResumedBy verdict_here

-- those before one of them
pub record IsResumedTo (requests : List Parked) (old new : LogState) : Type 0 where
  pub front : List Parked
  pub others : List Parked
  pub parts : requests ≡ front ++ others
  pub answers : List Produced
  pub resumed : IsResumedHere front old new answers
