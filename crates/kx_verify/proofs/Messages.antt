-- A request as the message that it came as.
use Rattle.std.proofs.Common.{refl}
use Rattle.kx_message.specs.declared.message.Held.{Held}
use Rattle.kx_verify.specs.Internal.Messages.{IsRequest, request_in}
use Rattle.kx_verify.specs.Request.{IsParked, message_of}
use Rattle.kx_verify.specs.declared.request.Append.{Append}
use Rattle.kx_verify.specs.declared.request.Append.TheVariants.{Produce, Offsets}

pub parked_message : (held : Held) (message : Append) → IsRequest held message
    → IsParked (message_of message) (record { held = held; request = request_in message })
parked_message held (Produce it) is = record { request = refl; held = is.own }
parked_message held (Offsets it) is = record { request = refl; held = is.own }
