-- How scripts print messages, and the nodes between which they go.
use Rattle.std.specs.Prelude.{ℕ, ℤ, pos, List, ◌++◌, length, Option, Some, None, codes, decimal}
use Rattle.std.specs.Int.{w16, w32, w64}
use Rattle.std.specs.Fmt.{signed_decimal}
use Rattle.kx_message.specs.Ranges.{partition_text}
use Rattle.kx_message.specs.Codes.{number_of, outcome_text}
use Rattle.kx_message.specs.Reader.{Reader, ◌>>=◌, gives, signed, taken}
use Rattle.kx_message.specs.declared.code.ErrorCode.{ErrorCode}
use Rattle.kx_message.specs.declared.display.Header.{Header}
use Rattle.kx_message.specs.declared.message.Held.{Held}
use Rattle.kx_message.specs.declared.message.Message.{Message}
use Rattle.kx_message.specs.declared.message.Message.TheVariants as msg
use Rattle.kx_message.specs.declared.message.NodeId.{NodeId}
use Rattle.kx_message.specs.declared.message.NodeId.TheVariants.{Coordinator, Partition, Client}

abbrev pub node_text : NodeId → List ℕ
node_text Coordinator = codes "co"
node_text (Partition partition) = codes "p" ++ partition_text partition
node_text (Client client) = codes "c" ++ decimal client

abbrev pub code_word : ErrorCode → List ℕ
code_word code = decimal (number_of code)

abbrev pub txn_word : Option (List ℕ) → List ℕ
txn_word None = codes "-"
txn_word (Some txn) = txn

-- an id and its epoch
abbrev pub held_words : Held → List ℕ
held_words held = decimal held.id ++ codes " " ++ decimal held.epoch

abbrev pub optional_held_words : Option Held → List ℕ
optional_held_words None = codes "-1 -1"
optional_held_words (Some held) = held_words held

------ what a batch's header says of its producer

-- the place of producerId in a batch
abbrev pub producer_place : ℕ
producer_place = 43

-- producerId, producerEpoch, baseSequence and recordsCount, which follow each other
unfoldable pub header_at : Reader Header
header_at = do
  before ← taken producer_place
  id ← signed w64
  epoch ← signed w16
  first ← signed w32
  count ← signed w32
  gives (record { id = id; epoch = epoch; first = first; count = count })

abbrev pub read_part : {A : Type 0} → Option (A × List ℕ) → Option A
read_part None = None
read_part (Some x) = Some x.0

-- none if the bytes are too few for a header
abbrev pub header_of : List ℕ → Option Header
header_of batch = read_part (header_at batch)

abbrev pub header_words : Option Header → List ℕ
header_words None = codes "-"
header_words (Some header) =
    signed_decimal header.id ++ codes " " ++ signed_decimal header.epoch ++ codes " "
    ++ signed_decimal header.first ++ codes " " ++ signed_decimal header.count

-- the same of offsets, which become a batch with a record for each
abbrev pub offsets_header : Held → ℤ → ℕ → Header
offsets_header held first count = record {
  id = pos held.id;
  epoch = pos held.epoch;
  first = first;
  count = pos count;
}

------ messages

abbrev pub message_text : Message → List ℕ
message_text (msg.InitProducerId it) =
    codes "Init " ++ txn_word it.txn ++ codes " " ++ decimal it.timeout
message_text (msg.InitReply it) =
    codes "InitReply " ++ code_word it.code ++ codes " " ++ optional_held_words it.held
message_text (msg.EndTxn it) =
    codes "EndTxn " ++ it.txn ++ codes " " ++ held_words it.held ++ codes " "
    ++ outcome_text it.outcome
message_text (msg.EndReply it) =
    codes "EndReply " ++ code_word it.code ++ codes " " ++ optional_held_words it.held
message_text (msg.Produce it) =
    codes "Produce " ++ header_words (header_of it.batch)
message_text (msg.ProduceReply it) =
    codes "ProduceReply " ++ code_word it.code ++ codes " " ++ signed_decimal it.offset
message_text (msg.AddPartition it) =
    codes "Add " ++ it.txn ++ codes " " ++ held_words it.held ++ codes " "
    ++ partition_text it.partition
message_text (msg.AddReply it) =
    codes "AddReply " ++ code_word it.code ++ codes " " ++ held_words it.held
message_text (msg.WriteMarker it) =
    codes "Marker " ++ held_words it.held ++ codes " " ++ outcome_text it.outcome ++ codes " "
    ++ signed_decimal it.coordinator_epoch
message_text (msg.MarkerReply it) =
    codes "MarkerReply " ++ code_word it.code ++ codes " " ++ held_words it.held
message_text (msg.Fetch it) =
    codes "Fetch " ++ partition_text it.partition ++ codes " " ++ signed_decimal it.from
message_text (msg.FetchReply it) =
    codes "FetchReply " ++ code_word it.code ++ codes " " ++ signed_decimal it.next
message_text (msg.Join it) = codes "Join " ++ it.group
message_text (msg.JoinReply it) =
    codes "JoinReply " ++ code_word it.code ++ codes " " ++ signed_decimal it.generation
    ++ codes " " ++ decimal it.place ++ codes " " ++ decimal it.count
message_text (msg.Leave it) = codes "Leave " ++ it.group
message_text (msg.LeaveReply it) = codes "LeaveReply " ++ code_word it.code
message_text (msg.TxnOffsetCommit it) =
    codes "Offsets " ++ it.group ++ codes " " ++ decimal it.member ++ codes " "
    ++ signed_decimal it.generation ++ codes " "
    ++ header_words (Some (offsets_header it.held it.first_sequence (length it.offsets)))
message_text (msg.OffsetsReply it) = codes "OffsetsReply " ++ code_word it.code
message_text (msg.OffsetFetch it) =
    codes "OffsetFetch " ++ it.group ++ codes " " ++ partition_text it.partition
message_text (msg.OffsetFetchReply it) =
    codes "OffsetFetchReply " ++ code_word it.code ++ codes " " ++ signed_decimal it.offset
