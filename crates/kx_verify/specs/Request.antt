-- Requests to append that can be parked, as the messages that they came as.
use Rattle.std.specs.Prelude.{◌≡◌, ℕ, List, Bool, false, ◌&&◌, ◌==◌, length, Some, Result}
use Rattle.std.specs.Prelude.{Ok, Err}
use Rattle.kx_batch.specs.Batch.{Spelled}
use Rattle.kx_batch.specs.declared.fault.BatchFault.{BatchFault}
use Rattle.kx_message.specs.declared.message.Message.{Message}
use Rattle.kx_message.specs.declared.message.Message.TheVariants as msg
use Rattle.kx_model.specs.Produce.{is_sequenced}
use Rattle.kx_model.specs.Verification.{Parked, pair_of, request_of}
use Rattle.kx_verify.specs.declared.request.Append.{Append}
use Rattle.kx_verify.specs.declared.request.Append.TheVariants.{Produce, Offsets}

-- as the message that a frame holds
abbrev pub message_of : Append → Message
message_of (Produce it) = msg.Produce it
message_of (Offsets it) = msg.TxnOffsetCommit it

-- what is parked is this message, with the id and epoch of its batch
pub record IsParked (message : Message) (parked : Parked) : Type 0 where
  pub request : request_of message ≡ Some parked.request
  pub held : pair_of parked.request ≡ Some parked.held

-- what was read is one batch, of a producer with an id, an epoch and a sequence, and no control
-- batch
abbrev pub is_one_sequenced : Result (Spelled × List ℕ) BatchFault → Bool
is_one_sequenced (Ok found) = length found.1 == 0 && is_sequenced found.0.batch
is_one_sequenced (Err fault) = false
