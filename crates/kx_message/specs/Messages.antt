-- Each message made of its fields, in the order of its frame.
use Rattle.std.specs.Prelude.{ℕ, ℤ, List, Bool, Option}
use Rattle.kx_message.specs.declared.code.ErrorCode.{ErrorCode}
use Rattle.kx_message.specs.declared.outcome.Outcome.{Outcome}
use Rattle.kx_message.specs.declared.payload.PartitionOffset.{PartitionOffset}
use Rattle.kx_message.specs.declared.payload.AbortedTxn.{AbortedTxn}
use Rattle.kx_message.specs.declared.message.Held.{Held}
use Rattle.kx_message.specs.declared.message.Message.{Message}
use Rattle.kx_message.specs.declared.message.Message.TheVariants as msg
use Rattle.kx_message.specs.declared.requests.Caller.{Caller}

abbrev pub caller_with : ℕ → ℕ → Caller
caller_with client correlation = record { client = client; correlation = correlation }

abbrev pub InitProducerId : Caller → Option (List ℕ) → ℕ → Message
InitProducerId caller txn timeout = msg.InitProducerId (record {
  caller = caller;
  txn = txn;
  timeout = timeout;
})

abbrev pub InitReply : Caller → ErrorCode → Option Held → Message
InitReply caller code held = msg.InitReply (record {
  caller = caller;
  code = code;
  held = held;
})

abbrev pub EndTxn : Caller → List ℕ → Held → Outcome → Message
EndTxn caller txn held outcome = msg.EndTxn (record {
  caller = caller;
  txn = txn;
  held = held;
  outcome = outcome;
})

abbrev pub EndReply : Caller → ErrorCode → Option Held → Message
EndReply caller code held = msg.EndReply (record {
  caller = caller;
  code = code;
  held = held;
})

abbrev pub Produce : Caller → Option (List ℕ) → ℕ → List ℕ → Message
Produce caller txn partition batch = msg.Produce (record {
  caller = caller;
  txn = txn;
  partition = partition;
  batch = batch;
})

abbrev pub ProduceReply : Caller → ℕ → ErrorCode → ℤ → Message
ProduceReply caller partition code offset = msg.ProduceReply (record {
  caller = caller;
  partition = partition;
  code = code;
  offset = offset;
})

abbrev pub AddPartition : List ℕ → Held → ℕ → Message
AddPartition txn held partition = msg.AddPartition (record {
  txn = txn;
  held = held;
  partition = partition;
})

abbrev pub AddReply : ℕ → List ℕ → Held → ErrorCode → Message
AddReply partition txn held code = msg.AddReply (record {
  partition = partition;
  txn = txn;
  held = held;
  code = code;
})

abbrev pub WriteMarker : ℕ → List ℕ → Held → ℤ → Outcome → Message
WriteMarker partition txn held coordinator outcome = msg.WriteMarker (record {
  partition = partition;
  txn = txn;
  held = held;
  coordinator_epoch = coordinator;
  outcome = outcome;
})

abbrev pub MarkerReply : ℕ → List ℕ → Held → ErrorCode → Message
MarkerReply partition txn held code = msg.MarkerReply (record {
  partition = partition;
  txn = txn;
  held = held;
  code = code;
})

abbrev pub Fetch : Caller → ℕ → ℤ → ℕ → Bool → Message
Fetch caller partition from max committed = msg.Fetch (record {
  caller = caller;
  partition = partition;
  from = from;
  max = max;
  committed = committed;
})

abbrev pub FetchReply : Caller → ℕ → ErrorCode → ℤ → ℤ → ℤ → List AbortedTxn → List ℕ → Message
FetchReply caller partition code next lso end aborted batches = msg.FetchReply (record {
  caller = caller;
  partition = partition;
  code = code;
  next = next;
  lso = lso;
  end = end;
  aborted = aborted;
  batches = batches;
})

abbrev pub Join : Caller → List ℕ → Message
Join caller group = msg.Join (record {
  caller = caller;
  group = group;
})

abbrev pub JoinReply : Caller → ErrorCode → ℤ → ℕ → ℕ → Message
JoinReply caller code generation place count = msg.JoinReply (record {
  caller = caller;
  code = code;
  generation = generation;
  place = place;
  count = count;
})

abbrev pub Leave : Caller → List ℕ → Message
Leave caller group = msg.Leave (record {
  caller = caller;
  group = group;
})

abbrev pub LeaveReply : Caller → ErrorCode → Message
LeaveReply caller code = msg.LeaveReply (record {
  caller = caller;
  code = code;
})

abbrev pub TxnOffsetCommit :
    Caller → List ℕ → List ℕ → ℕ → ℤ → Held → ℤ → List PartitionOffset → Message
TxnOffsetCommit caller txn group member generation held first offsets =
    msg.TxnOffsetCommit (record {
      caller = caller;
      txn = txn;
      group = group;
      member = member;
      generation = generation;
      held = held;
      first_sequence = first;
      offsets = offsets;
    })

abbrev pub OffsetsReply : Caller → ErrorCode → Message
OffsetsReply caller code = msg.OffsetsReply (record {
  caller = caller;
  code = code;
})

abbrev pub OffsetFetch : Caller → List ℕ → ℕ → Bool → Message
OffsetFetch caller group partition stable = msg.OffsetFetch (record {
  caller = caller;
  group = group;
  partition = partition;
  stable = stable;
})

abbrev pub OffsetFetchReply : Caller → ErrorCode → ℤ → Message
OffsetFetchReply caller code offset = msg.OffsetFetchReply (record {
  caller = caller;
  code = code;
  offset = offset;
})
