-- Where memory may be lacking for what comes to the server of a partition: only if the table
-- appends or parks one more request, if parked requests are answered, and for a page that isn't
-- empty. Whatever the tables refuse, answer again or leave as it is needs none.
use Rattle.std.specs.Prelude.{◌≡◌, ◌<◌, ◌+◌, ◌++◌, ◌∷◌, [], ℕ, List, length, min, Bool, true, false}
use Rattle.std.specs.Prelude.{Option, Some, None, Result, Ok, Err}
use Rattle.std.specs.List.{list_any}
use Rattle.kx_batch.specs.Batch.{batch_limit}
use Rattle.kx_broker.specs.Serving.{Serving}
use Rattle.kx_group.specs.Calls.{WantsMemory}
use Rattle.kx_message.specs.Ranges.{offsets_partition}
use Rattle.kx_message.specs.declared.code.ErrorCode.{ErrorCode}
use Rattle.kx_message.specs.declared.message.Held.{Held}
use Rattle.kx_message.specs.declared.message.Message.{Message}
use Rattle.kx_message.specs.declared.message.Message.TheVariants as msg
use Rattle.kx_model.specs.Groups.{judge_drop, judge_join, judge_leave}
use Rattle.kx_model.specs.Log.{entries}
use Rattle.kx_model.specs.Page.{Page, fetched}
use Rattle.kx_model.specs.PartitionNode.{marker_of}
use Rattle.kx_model.specs.Produce.{Verdict, Next, Duplicate, Unverified, Refused, Appends}
use Rattle.kx_model.specs.Step.{Input, Comes, Drops, Puts, Restarts, plain_text}
use Rattle.kx_model.specs.Verification.{Parked, Request, judge_request, pair_of, parked_for}
use Rattle.kx_model.specs.Verification.{request_of, same_request}
use Rattle.kx_partition.specs.Answer.{marker_verdict_at, unless_closed, verdict_at}
use Rattle.kx_verify.specs.Guard.{after}

------ requests (KIP-98, "Produce"; KIP-890)

-- it is the request that a message is
abbrev pub is_same : Request → Option Request → Bool
is_same r (Some s) = same_request r s
is_same r None = false

-- the request that a message is waits among those parked
abbrev pub waits_as : List Parked → Message → Bool
waits_as parked m = list_any (λ q. is_same q.request (request_of m)) parked

-- it is parked, as one more
abbrev pub IsAdded : List Parked → Parked → Type 0
IsAdded parked p = after parked p ≡ parked ++ p ∷ []

-- the same of a request by its transactional id and the id and epoch of its batch
abbrev pub IsOneMore : List Parked → Request → Option (List ℕ) → Option Held → Type 0
IsOneMore parked r (Some txn) (Some held) =
    IsAdded parked (record { held = held; request = r })
IsOneMore parked r (Some txn) None = ⊥
IsOneMore parked r None held = ⊥

-- by the verdict on it
abbrev pub VerdictMayLack : List Parked → Request → Verdict → Type 0
VerdictMayLack parked r Next = Unit {0}
VerdictMayLack parked r (Duplicate offset) = ⊥
VerdictMayLack parked r Unverified = IsOneMore parked r r.txn (pair_of r)
VerdictMayLack parked r (Refused code) = ⊥

abbrev pub RequestMayLack : Serving → Option Request → Type 0
RequestMayLack server (Some r) = VerdictMayLack server.parked r
    (unless_closed server.log.closed (judge_request (entries server.log.batches) false r))
RequestMayLack server None = ⊥

------ messages

-- it has a batch, or names an aborted transaction
abbrev pub IsFilled : Result Page ErrorCode → Type 0
IsFilled (Ok page) = 0 < length page.batches + length page.aborted
IsFilled (Err code) = ⊥

-- what the partition of this number takes as any other
abbrev pub AnyMayLack : ℕ → Serving → Message → Type 0
AnyMayLack number server (msg.AddReply it) =
    (it.partition ≡ number) × (0 < length (parked_for server.parked it.held))
AnyMayLack number server (msg.WriteMarker it) =
    (it.partition ≡ number)
    × (marker_verdict_at server.log (marker_of it.held it.coordinator_epoch it.outcome) ≡ Appends)
AnyMayLack number server (msg.Fetch it) =
    (it.partition ≡ number)
    × IsFilled (fetched server.log.batches it.from (min it.max batch_limit) it.committed)
AnyMayLack number server m = ⊥

-- a data partition
abbrev pub MayLack : Serving → Message → Type 0
MayLack server (msg.Produce it) =
    (it.partition ≡ server.number) × RequestMayLack server (request_of (msg.Produce it))
MayLack server m = AnyMayLack server.number server m

-- the offsets partition
abbrev pub GroupsMayLack : Serving → Message → Type 0
GroupsMayLack server (msg.TxnOffsetCommit it) =
    RequestMayLack server (request_of (msg.TxnOffsetCommit it))
GroupsMayLack server (msg.Join it) =
    WantsMemory (judge_join (entries server.log.batches) it.group it.caller.client) server.log
GroupsMayLack server (msg.Leave it) =
    WantsMemory (judge_leave (entries server.log.batches) it.group it.caller.client) server.log
GroupsMayLack server m = AnyMayLack offsets_partition server m

------ inputs: a log is read again at a restart

abbrev pub InputMayLack : Serving → Input → Type 0
InputMayLack server (Comes m) = MayLack server m
InputMayLack server (Puts first more) =
    verdict_at server.log true (plain_text (first ∷ more)) ≡ Next
InputMayLack server (Restarts now) = Unit {0}
InputMayLack server input = ⊥

abbrev pub GroupsInputMayLack : Serving → Input → Type 0
GroupsInputMayLack server (Comes m) = GroupsMayLack server m
GroupsInputMayLack server (Drops group member) =
    WantsMemory (judge_drop (entries server.log.batches) group member) server.log
GroupsInputMayLack server (Restarts now) = Unit {0}
GroupsInputMayLack server input = ⊥
