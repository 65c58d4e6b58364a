-- Which messages can be sent: every field is in range, and the frame is within the limit.
use Rattle.std.specs.Prelude.{ℕ, ◌^◌, ◌<◌, ◌≤◌, List, length, IfSome}
use Rattle.std.specs.List.{AllByRecursion}
use Rattle.std.specs.Int.{w32, w64}
use Rattle.std.specs.Int.RustNames.{FitsSigned}
use Rattle.kx_message.specs.Ranges.{IsProducerId, IsEpoch, IsPartition, IsTimeout, IsName}
use Rattle.kx_message.specs.Ranges.{IsOffsetCount}
use Rattle.kx_message.specs.Sizes.{FitsFrame}
use Rattle.kx_message.specs.declared.payload.PartitionOffset.{PartitionOffset}
use Rattle.kx_message.specs.declared.payload.AbortedTxn.{AbortedTxn}
use Rattle.kx_message.specs.declared.message.Held.{Held}
use Rattle.kx_message.specs.declared.requests.Caller.{Caller}
use Rattle.kx_message.specs.declared.message.Message.{Message}
use Rattle.kx_message.specs.declared.message.Message.TheVariants as msg

abbrev pub IsU32 : ℕ → Type 0
IsU32 n = n < 2 ^ 32

abbrev pub IsU16 : ℕ → Type 0
IsU16 n = n < 2 ^ 16

abbrev pub IsCaller : Caller → Type 0
IsCaller caller = IsU32 caller.client × IsU32 caller.correlation

pub record IsHeld (held : Held) : Type 0 where
  pub id : IsProducerId held.id
  pub epoch : IsEpoch held.epoch

-- the epoch of a marker, and of the answer to it, is 1 or more
pub record IsMarker (held : Held) : Type 0 where
  pub ids : IsHeld held
  pub some : 1 ≤ held.epoch

pub record IsOffset (o : PartitionOffset) : Type 0 where
  pub partition : IsPartition o.partition
  pub offset : FitsSigned w64 o.offset

pub record IsAborted (a : AbortedTxn) : Type 0 where
  pub id : IsProducerId a.id
  pub first : FitsSigned w64 a.first

pub record AreOffsets (offsets : List PartitionOffset) : Type 0 where
  pub count : IsOffsetCount (length offsets)
  pub each : AllByRecursion IsOffset offsets

-- bytes and aborted transactions are as many as four bytes count
pub record AreAborted (aborted : List AbortedTxn) : Type 0 where
  pub count : IsU32 (length aborted)
  pub each : AllByRecursion IsAborted aborted

abbrev pub IsPayload : List ℕ → Type 0
IsPayload bytes = IsU32 (length bytes)

-- each field is in range
abbrev pub IsMessage : Message → Type 0
IsMessage (msg.InitProducerId it) =
    IsCaller it.caller × IfSome it.txn IsName × IsTimeout it.timeout
IsMessage (msg.InitReply it) =
    IsCaller it.caller × IfSome it.held IsHeld
IsMessage (msg.EndTxn it) =
    IsCaller it.caller × IsName it.txn × IsHeld it.held
IsMessage (msg.EndReply it) =
    IsCaller it.caller × IfSome it.held IsHeld
IsMessage (msg.Produce it) =
    IsCaller it.caller × IfSome it.txn IsName × IsPartition it.partition × IsPayload it.batch
IsMessage (msg.ProduceReply it) =
    IsCaller it.caller × IsPartition it.partition × FitsSigned w64 it.offset
IsMessage (msg.AddPartition it) =
    IsName it.txn × IsHeld it.held × IsPartition it.partition
IsMessage (msg.AddReply it) = IsPartition it.partition × IsName it.txn × IsHeld it.held
IsMessage (msg.WriteMarker it) =
    IsPartition it.partition × IsName it.txn × IsMarker it.held
    × FitsSigned w32 it.coordinator_epoch
IsMessage (msg.MarkerReply it) =
    IsPartition it.partition × IsName it.txn × IsMarker it.held
IsMessage (msg.Fetch it) =
    IsCaller it.caller × IsPartition it.partition × FitsSigned w64 it.from × IsU32 it.max
IsMessage (msg.FetchReply it) =
    IsCaller it.caller × IsPartition it.partition × FitsSigned w64 it.next × FitsSigned w64 it.lso
    × FitsSigned w64 it.end × AreAborted it.aborted × IsPayload it.batches
IsMessage (msg.Join it) = IsCaller it.caller × IsName it.group
IsMessage (msg.JoinReply it) =
    IsCaller it.caller × FitsSigned w32 it.generation × IsU16 it.place × IsU16 it.count
IsMessage (msg.Leave it) = IsCaller it.caller × IsName it.group
IsMessage (msg.LeaveReply it) = IsCaller it.caller
IsMessage (msg.TxnOffsetCommit it) =
    IsCaller it.caller × IsName it.txn × IsName it.group × IsU32 it.member
    × FitsSigned w32 it.generation × IsHeld it.held × FitsSigned w32 it.first_sequence
    × AreOffsets it.offsets
IsMessage (msg.OffsetsReply it) = IsCaller it.caller
IsMessage (msg.OffsetFetch it) =
    IsCaller it.caller × IsName it.group × IsPartition it.partition
IsMessage (msg.OffsetFetchReply it) =
    IsCaller it.caller × FitsSigned w64 it.offset

pub record IsSendable (m : Message) : Type 0 where
  pub ranges : IsMessage m
  pub fits : FitsFrame m
