-- How many bytes a message takes.
use Rattle.std.specs.Prelude.{ℕ, ◌+◌, ◌*◌, ◌<◌, List, length, Option, Some, None}
use Rattle.kx_message.specs.declared.message.Message.{Message}
use Rattle.kx_message.specs.declared.message.Message.TheVariants as msg
use Rattle.kx_message.specs.Fields.{fields_of}

-- the most that a frame's length may say: 2 MiB
abbrev pub longest_frame : ℕ
longest_frame = 2097152

-- the kind and the fields are no more than a frame holds
abbrev pub FitsFrame : Message → Type 0
FitsFrame m = length (fields_of m) < longest_frame

abbrev pub optional_size : Option (List ℕ) → ℕ
optional_size None = 1
optional_size (Some name) = 1 + length name

-- how many bytes the fields take
abbrev pub size_of : Message → ℕ
size_of (msg.InitProducerId it) = 12 + optional_size it.txn
size_of (msg.InitReply it) = 20
size_of (msg.EndTxn it) = 20 + length it.txn
size_of (msg.EndReply it) = 20
size_of (msg.Produce it) = 14 + optional_size it.txn + length it.batch
size_of (msg.ProduceReply it) = 20
size_of (msg.AddPartition it) = 13 + length it.txn
size_of (msg.AddReply it) = 15 + length it.txn
size_of (msg.WriteMarker it) = 18 + length it.txn
size_of (msg.MarkerReply it) = 15 + length it.txn
size_of (msg.Fetch it) = 23
size_of (msg.FetchReply it) =
    44 + 16 * length it.aborted + length it.batches
size_of (msg.Join it) = 9 + length it.group
size_of (msg.JoinReply it) = 18
size_of (msg.Leave it) = 9 + length it.group
size_of (msg.LeaveReply it) = 10
size_of (msg.TxnOffsetCommit it) =
    34 + length it.txn + length it.group + 10 * length it.offsets
size_of (msg.OffsetsReply it) = 10
size_of (msg.OffsetFetch it) = 12 + length it.group
size_of (msg.OffsetFetchReply it) = 18

-- no payload alone is more than a frame holds
abbrev pub HasRoom : Message → Type 0
HasRoom (msg.Produce it) = length it.batch < longest_frame
HasRoom (msg.FetchReply it) =
    (length it.aborted < longest_frame) × (length it.batches < longest_frame)
HasRoom other = Unit {0}
