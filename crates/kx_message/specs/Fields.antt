-- The fields of messages as bytes, and the frame of a message: the layout of this core's protocol,
-- whose fields are those of the Kafka protocol guide's requests, of KIP-98 and of KIP-447. All
-- numbers stand highest byte first.
use Rattle.std.specs.Prelude.{ℕ, pos, negsuc, ◌+◌, List, ◌++◌, length, Bool, true, false}
use Rattle.std.specs.Prelude.{Option, Some, None}
use Rattle.std.specs.List.{flat_map}
use Rattle.std.specs.Int.{w8, w16, w32, w64}
use Rattle.kx_varint.specs.BigEndian.{unsigned_text, signed_text}
use Rattle.kx_message.specs.Codes.{number_of, outcome_byte}
use Rattle.kx_message.specs.declared.code.ErrorCode.{ErrorCode}
use Rattle.kx_message.specs.declared.outcome.Outcome.{Outcome}
use Rattle.kx_message.specs.declared.payload.PartitionOffset.{PartitionOffset}
use Rattle.kx_message.specs.declared.payload.AbortedTxn.{AbortedTxn}
use Rattle.kx_message.specs.declared.message.Held.{Held}
use Rattle.kx_message.specs.declared.requests.Caller.{Caller}
use Rattle.kx_message.specs.declared.message.Message.{Message}
use Rattle.kx_message.specs.declared.message.Message.TheVariants as msg

------ fields

-- who asks, and the number that the reply repeats
unfoldable pub caller_text : Caller → List ℕ
caller_text caller = unsigned_text w32 caller.client ++ unsigned_text w32 caller.correlation

-- a length byte, and a name
unfoldable pub name_text : List ℕ → List ℕ
name_text name = unsigned_text w8 (length name) ++ name

-- none is the length 0
unfoldable pub optional_text : Option (List ℕ) → List ℕ
optional_text None = unsigned_text w8 0
optional_text (Some name) = name_text name

-- an id and its epoch
unfoldable pub held_text : Held → List ℕ
held_text held = signed_text w64 (pos held.id) ++ signed_text w16 (pos held.epoch)

-- none is -1 and -1 (`negsuc 0` is -1)
unfoldable pub optional_held_text : Option Held → List ℕ
optional_held_text None = signed_text w64 (negsuc 0) ++ signed_text w16 (negsuc 0)
optional_held_text (Some held) = held_text held

unfoldable pub code_text : ErrorCode → List ℕ
code_text code = signed_text w16 (pos (number_of code))

unfoldable pub outcome_field : Outcome → List ℕ
outcome_field outcome = unsigned_text w8 (outcome_byte outcome)

abbrev pub flag_byte : Bool → ℕ
flag_byte false = 0
flag_byte true = 1

unfoldable pub flag_text : Bool → List ℕ
flag_text flag = unsigned_text w8 (flag_byte flag)

-- four bytes of length, and that many bytes
unfoldable pub bytes_text : List ℕ → List ℕ
bytes_text bytes = unsigned_text w32 (length bytes) ++ bytes

unfoldable pub offset_text : PartitionOffset → List ℕ
offset_text o = unsigned_text w16 o.partition ++ signed_text w64 o.offset

-- two bytes of count, and the offsets
unfoldable pub offsets_text : List PartitionOffset → List ℕ
offsets_text offsets = unsigned_text w16 (length offsets) ++ flat_map offset_text offsets

unfoldable pub aborted_txn_text : AbortedTxn → List ℕ
aborted_txn_text a = signed_text w64 (pos a.id) ++ signed_text w64 a.first

-- four bytes of count, and the transactions
unfoldable pub aborted_text : List AbortedTxn → List ℕ
aborted_text aborted = unsigned_text w32 (length aborted) ++ flat_map aborted_txn_text aborted

------ messages

-- the byte that tells the kinds of messages apart
abbrev pub kind_of : Message → ℕ
kind_of (msg.InitProducerId it) = 1
kind_of (msg.InitReply it) = 2
kind_of (msg.EndTxn it) = 3
kind_of (msg.EndReply it) = 4
kind_of (msg.Produce it) = 5
kind_of (msg.ProduceReply it) = 6
kind_of (msg.AddPartition it) = 7
kind_of (msg.AddReply it) = 8
kind_of (msg.WriteMarker it) = 9
kind_of (msg.MarkerReply it) = 10
kind_of (msg.Fetch it) = 11
kind_of (msg.FetchReply it) = 12
kind_of (msg.Join it) = 13
kind_of (msg.JoinReply it) = 14
kind_of (msg.Leave it) = 15
kind_of (msg.LeaveReply it) = 16
kind_of (msg.TxnOffsetCommit it) = 17
kind_of (msg.OffsetsReply it) = 18
kind_of (msg.OffsetFetch it) = 19
kind_of (msg.OffsetFetchReply it) = 20

-- the fields of a message, one behind the other
abbrev pub fields_of : Message → List ℕ
fields_of (msg.InitProducerId it) =
    caller_text it.caller ++ optional_text it.txn ++ unsigned_text w32 it.timeout
fields_of (msg.InitReply it) =
    caller_text it.caller ++ code_text it.code ++ optional_held_text it.held
fields_of (msg.EndTxn it) =
    caller_text it.caller ++ name_text it.txn ++ held_text it.held ++ outcome_field it.outcome
fields_of (msg.EndReply it) =
    caller_text it.caller ++ code_text it.code ++ optional_held_text it.held
fields_of (msg.Produce it) =
    caller_text it.caller ++ optional_text it.txn ++ unsigned_text w16 it.partition
    ++ bytes_text it.batch
fields_of (msg.ProduceReply it) =
    caller_text it.caller ++ unsigned_text w16 it.partition ++ code_text it.code
    ++ signed_text w64 it.offset
fields_of (msg.AddPartition it) =
    name_text it.txn ++ held_text it.held ++ unsigned_text w16 it.partition
fields_of (msg.AddReply it) =
    unsigned_text w16 it.partition ++ name_text it.txn ++ held_text it.held ++ code_text it.code
fields_of (msg.WriteMarker it) =
    unsigned_text w16 it.partition ++ name_text it.txn ++ held_text it.held
    ++ signed_text w32 it.coordinator_epoch ++ outcome_field it.outcome
fields_of (msg.MarkerReply it) =
    unsigned_text w16 it.partition ++ name_text it.txn ++ held_text it.held ++ code_text it.code
fields_of (msg.Fetch it) =
    caller_text it.caller ++ unsigned_text w16 it.partition ++ signed_text w64 it.from
    ++ unsigned_text w32 it.max ++ flag_text it.committed
fields_of (msg.FetchReply it) =
    caller_text it.caller ++ unsigned_text w16 it.partition ++ code_text it.code
    ++ signed_text w64 it.next ++ signed_text w64 it.lso ++ signed_text w64 it.end
    ++ aborted_text it.aborted ++ bytes_text it.batches
fields_of (msg.Join it) = caller_text it.caller ++ name_text it.group
fields_of (msg.JoinReply it) =
    caller_text it.caller ++ code_text it.code ++ signed_text w32 it.generation
    ++ unsigned_text w16 it.place ++ unsigned_text w16 it.count
fields_of (msg.Leave it) = caller_text it.caller ++ name_text it.group
fields_of (msg.LeaveReply it) =
    caller_text it.caller ++ code_text it.code
fields_of (msg.TxnOffsetCommit it) =
    caller_text it.caller ++ name_text it.txn ++ name_text it.group ++ unsigned_text w32 it.member
    ++ signed_text w32 it.generation ++ held_text it.held ++ signed_text w32 it.first_sequence
    ++ offsets_text it.offsets
fields_of (msg.OffsetsReply it) =
    caller_text it.caller ++ code_text it.code
fields_of (msg.OffsetFetch it) =
    caller_text it.caller ++ name_text it.group ++ unsigned_text w16 it.partition
    ++ flag_text it.stable
fields_of (msg.OffsetFetchReply it) =
    caller_text it.caller ++ code_text it.code ++ signed_text w64 it.offset

-- the length of what follows it, the kind, and the fields
unfoldable pub frame_text : Message → List ℕ
frame_text m =
    unsigned_text w32 (length (fields_of m) + 1) ++ unsigned_text w8 (kind_of m) ++ fields_of m
