-- Reading messages: a reader for each field, for each kind of message, and for a frame.
use Rattle.std.specs.Prelude.{ℕ, zero, suc, List, Option, Some, None, Bool}
use Rattle.std.specs.Prelude.{nat_lt, ◌&&◌, [], ◌∷◌, ◌≡◌, ◌≢◌, true}
use Rattle.std.specs.List.{slice_get}
use Rattle.std.specs.Int.{w8, w16, w32, w64}
use Rattle.kx_message.specs.Reader.{Reader, ◌>>=◌, gives, only, unsigned, signed, taken, repeated}
use Rattle.kx_message.specs.Values.{natural_with, partition_with, timeout_with, name_with}
use Rattle.kx_message.specs.Values.{code_with}
use Rattle.kx_message.specs.Values.{outcome_with, flag_with, held_with, optional_held_with}
use Rattle.kx_message.specs.Values.{marker_with, offset_count_with}
use Rattle.kx_message.specs.declared.code.ErrorCode.{ErrorCode}
use Rattle.kx_message.specs.declared.outcome.Outcome.{Outcome}
use Rattle.kx_message.specs.declared.payload.PartitionOffset.{PartitionOffset}
use Rattle.kx_message.specs.declared.payload.AbortedTxn.{AbortedTxn}
use Rattle.kx_message.specs.declared.message.Held.{Held}
use Rattle.kx_message.specs.declared.requests.Caller.{Caller}
use Rattle.kx_message.specs.declared.message.Message.{Message}
use Rattle.kx_message.specs.declared.message.Message.TheVariants as msg

------ fields

unfoldable pub caller_at : Reader Caller
caller_at = do
  client ← unsigned w32
  correlation ← unsigned w32
  gives (record { client = client; correlation = correlation })

unfoldable pub partition_at : Reader ℕ
partition_at = do
  n ← unsigned w16
  only (partition_with n)

unfoldable pub timeout_at : Reader ℕ
timeout_at = do
  n ← unsigned w32
  only (timeout_with n)

unfoldable pub code_at : Reader ErrorCode
code_at = do
  n ← signed w16
  only (code_with n)

unfoldable pub outcome_at : Reader Outcome
outcome_at = do
  n ← unsigned w8
  only (outcome_with n)

unfoldable pub flag_at : Reader Bool
flag_at = do
  n ← unsigned w8
  only (flag_with n)

-- a name of so many bytes
unfoldable pub named : ℕ → Reader (List ℕ)
named n = do
  text ← taken n
  only (name_with text)

unfoldable pub name_at : Reader (List ℕ)
name_at = do
  n ← unsigned w8
  named n

abbrev pub optional_named : ℕ → Reader (Option (List ℕ))
optional_named zero = gives None
optional_named (suc n) = do
  name ← named (suc n)
  gives (Some name)

unfoldable pub optional_name_at : Reader (Option (List ℕ))
optional_name_at = do
  n ← unsigned w8
  optional_named n

unfoldable pub held_at : Reader Held
held_at = do
  id ← signed w64
  epoch ← signed w16
  only (held_with id epoch)

unfoldable pub marker_at : Reader Held
marker_at = do
  held ← held_at
  only (marker_with held)

unfoldable pub optional_held_at : Reader (Option Held)
optional_held_at = do
  id ← signed w64
  epoch ← signed w16
  only (optional_held_with id epoch)

unfoldable pub bytes_at : Reader (List ℕ)
bytes_at = do
  n ← unsigned w32
  taken n

unfoldable pub offset_at : Reader PartitionOffset
offset_at = do
  partition ← partition_at
  offset ← signed w64
  gives (record { partition = partition; offset = offset })

unfoldable pub offset_count_at : Reader ℕ
offset_count_at = do
  n ← unsigned w16
  only (offset_count_with n)

unfoldable pub offsets_at : Reader (List PartitionOffset)
offsets_at = do
  count ← offset_count_at
  repeated offset_at count

unfoldable pub id_at : Reader ℕ
id_at = do
  id ← signed w64
  only (natural_with id)

unfoldable pub aborted_txn_at : Reader AbortedTxn
aborted_txn_at = do
  id ← id_at
  first ← signed w64
  gives (record { id = id; first = first })

unfoldable pub aborted_at : Reader (List AbortedTxn)
aborted_at = do
  n ← unsigned w32
  repeated aborted_txn_at n

------ messages

unfoldable pub init_producer_id_at : Reader Message
init_producer_id_at = do
  caller ← caller_at
  txn ← optional_name_at
  timeout ← timeout_at
  gives (msg.InitProducerId (record { caller = caller; txn = txn; timeout = timeout }))

unfoldable pub init_reply_at : Reader Message
init_reply_at = do
  caller ← caller_at
  code ← code_at
  held ← optional_held_at
  gives (msg.InitReply (record { caller = caller; code = code; held = held }))

unfoldable pub end_txn_at : Reader Message
end_txn_at = do
  caller ← caller_at
  txn ← name_at
  held ← held_at
  outcome ← outcome_at
  gives (msg.EndTxn (record { caller = caller; txn = txn; held = held; outcome = outcome }))

unfoldable pub end_reply_at : Reader Message
end_reply_at = do
  caller ← caller_at
  code ← code_at
  held ← optional_held_at
  gives (msg.EndReply (record { caller = caller; code = code; held = held }))

unfoldable pub produce_at : Reader Message
produce_at = do
  caller ← caller_at
  txn ← optional_name_at
  partition ← partition_at
  batch ← bytes_at
  gives (msg.Produce (record { caller = caller; txn = txn; partition = partition; batch = batch }))

unfoldable pub produce_reply_at : Reader Message
produce_reply_at = do
  caller ← caller_at
  partition ← partition_at
  code ← code_at
  offset ← signed w64
  gives (msg.ProduceReply (record {
    caller = caller;
    partition = partition;
    code = code;
    offset = offset;
  }))

unfoldable pub add_partition_at : Reader Message
add_partition_at = do
  txn ← name_at
  held ← held_at
  partition ← partition_at
  gives (msg.AddPartition (record { txn = txn; held = held; partition = partition }))

unfoldable pub add_reply_at : Reader Message
add_reply_at = do
  partition ← partition_at
  txn ← name_at
  held ← held_at
  code ← code_at
  gives (msg.AddReply (record { partition = partition; txn = txn; held = held; code = code }))

unfoldable pub write_marker_at : Reader Message
write_marker_at = do
  partition ← partition_at
  txn ← name_at
  held ← marker_at
  coordinator_epoch ← signed w32
  outcome ← outcome_at
  gives (msg.WriteMarker (record {
    partition = partition;
    txn = txn;
    held = held;
    coordinator_epoch = coordinator_epoch;
    outcome = outcome;
  }))

unfoldable pub marker_reply_at : Reader Message
marker_reply_at = do
  partition ← partition_at
  txn ← name_at
  held ← marker_at
  code ← code_at
  gives (msg.MarkerReply (record { partition = partition; txn = txn; held = held; code = code }))

unfoldable pub fetch_at : Reader Message
fetch_at = do
  caller ← caller_at
  partition ← partition_at
  from ← signed w64
  max ← unsigned w32
  committed ← flag_at
  gives (msg.Fetch (record {
    caller = caller;
    partition = partition;
    from = from;
    max = max;
    committed = committed;
  }))

unfoldable pub fetch_reply_at : Reader Message
fetch_reply_at = do
  caller ← caller_at
  partition ← partition_at
  code ← code_at
  next ← signed w64
  lso ← signed w64
  end ← signed w64
  aborted ← aborted_at
  batches ← bytes_at
  gives (msg.FetchReply (record {
    caller = caller;
    partition = partition;
    code = code;
    next = next;
    lso = lso;
    end = end;
    aborted = aborted;
    batches = batches;
  }))

unfoldable pub join_at : Reader Message
join_at = do
  caller ← caller_at
  group ← name_at
  gives (msg.Join (record { caller = caller; group = group }))

unfoldable pub join_reply_at : Reader Message
join_reply_at = do
  caller ← caller_at
  code ← code_at
  generation ← signed w32
  place ← unsigned w16
  count ← unsigned w16
  gives (msg.JoinReply (record {
    caller = caller;
    code = code;
    generation = generation;
    place = place;
    count = count;
  }))

unfoldable pub leave_at : Reader Message
leave_at = do
  caller ← caller_at
  group ← name_at
  gives (msg.Leave (record { caller = caller; group = group }))

unfoldable pub leave_reply_at : Reader Message
leave_reply_at = do
  caller ← caller_at
  code ← code_at
  gives (msg.LeaveReply (record { caller = caller; code = code }))

unfoldable pub txn_offset_commit_at : Reader Message
txn_offset_commit_at = do
  caller ← caller_at
  txn ← name_at
  group ← name_at
  member ← unsigned w32
  generation ← signed w32
  held ← held_at
  first_sequence ← signed w32
  offsets ← offsets_at
  gives (msg.TxnOffsetCommit (record {
    caller = caller;
    txn = txn;
    group = group;
    member = member;
    generation = generation;
    held = held;
    first_sequence = first_sequence;
    offsets = offsets;
  }))

unfoldable pub offsets_reply_at : Reader Message
offsets_reply_at = do
  caller ← caller_at
  code ← code_at
  gives (msg.OffsetsReply (record { caller = caller; code = code }))

unfoldable pub offset_fetch_at : Reader Message
offset_fetch_at = do
  caller ← caller_at
  group ← name_at
  partition ← partition_at
  stable ← flag_at
  gives (msg.OffsetFetch (record {
    caller = caller;
    group = group;
    partition = partition;
    stable = stable;
  }))

unfoldable pub offset_fetch_reply_at : Reader Message
offset_fetch_reply_at = do
  caller ← caller_at
  code ← code_at
  offset ← signed w64
  gives (msg.OffsetFetchReply (record { caller = caller; code = code; offset = offset }))

-- the readers of the kinds 1, 2 and so on
abbrev pub readers : List (Reader Message)
readers =
    init_producer_id_at ∷ init_reply_at ∷ end_txn_at ∷ end_reply_at ∷ produce_at
    ∷ produce_reply_at ∷ add_partition_at ∷ add_reply_at ∷ write_marker_at ∷ marker_reply_at
    ∷ fetch_at ∷ fetch_reply_at ∷ join_at ∷ join_reply_at ∷ leave_at ∷ leave_reply_at
    ∷ txn_offset_commit_at ∷ offsets_reply_at ∷ offset_fetch_at ∷ offset_fetch_reply_at ∷ []

-- whether there is a kind with this number
abbrev pub is_kind : ℕ → Bool
is_kind n = nat_lt 0 n && nat_lt n 21

-- the kinds whose messages take no memory
abbrev pub IsSmall : ℕ → Type 0
IsSmall n = (is_kind n ≡ true) × (n ≢ 5) × (n ≢ 12) × (n ≢ 17)

abbrev pub reader_or_none : Option (Reader Message) → Reader Message
reader_or_none None = only None
reader_or_none (Some read) = read

-- the fields of the kind with this number
unfoldable pub fields_at : ℕ → Reader Message
fields_at zero = only None
fields_at (suc n) = reader_or_none (slice_get readers n)
