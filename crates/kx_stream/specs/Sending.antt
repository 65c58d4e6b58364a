-- What is written of the messages that a machine hands out.
use Rattle.std.specs.Prelude.{◌≡◌, ◌<◌, ℕ, List, ◌∷◌, ◌++◌, length, Option, Result, Ok, Err}
use Rattle.std.specs.List.{flat_map}
use Rattle.std.specs.Io.KnownBytes.{Appends, Keeps}
use Rattle.kx_message.specs.Fields.{frame_text}
use Rattle.kx_message.specs.Sizes.{FitsFrame}
use Rattle.kx_message.specs.declared.message.Message.{Message}
use Rattle.kx_stream.specs.declared.fault.StreamFault.{StreamFault}
use Rattle.kx_stream.specs.declared.fault.StreamFault.TheVariants.{Read, Write, Frame}
use Rattle.kx_wire.specs.declared.fault.FrameFault.{FrameFault}
use Rattle.kx_wire.specs.declared.fault.FrameFault.TheVariants as frame

-- the frames of messages, one after the other
abbrev pub frames : List Message → List ℕ
frames = flat_map frame_text

-- why a message that was handed out isn't written: it is longer than a frame, or memory ran out
abbrev pub Unsent : FrameFault → Message → Type 0
Unsent frame.TooLong message = ¬ FitsFrame message
Unsent frame.Memory message = Unit {0}
Unsent frame.Kind message = ⊥
Unsent frame.Field message = ⊥
Unsent frame.Failed message = ⊥

-- some of the bytes are written, from their front, and not all of them
pub record IsBroken (text : List ℕ) (old new : Option (List ℕ)) : Type 0 where
  pub front : List ℕ
  pub lost : List ℕ
  pub parts : text ≡ front ++ lost
  pub some_lost : 0 < length lost
  pub written : Appends old new front

-- bytes that a writer is given
abbrev pub Writes : List ℕ → Option (List ℕ) → Option (List ℕ) → Result (Unit {0}) StreamFault
    → Type 0
Writes text old new (Ok done) = Appends old new text
Writes text old new (Err Write) = IsBroken text old new
Writes text old new (Err Read) = ⊥
Writes text old new (Err (Frame fault)) = ⊥

-- one message
abbrev pub Sends : Message → Option (List ℕ) → Option (List ℕ) → Result (Unit {0}) StreamFault
    → Type 0
Sends message old new (Ok done) = Appends old new (frame_text message)
Sends message old new (Err (Frame fault)) = Keeps old new × Unsent fault message
Sends message old new (Err Write) = IsBroken (frame_text message) old new
Sends message old new (Err Read) = ⊥

-- the frames of the messages before one that isn't written
pub record IsCut (fault : FrameFault) (handed : List Message) (old new : Option (List ℕ))
    : Type 0 where
  pub sent : List Message
  pub first : Message
  pub lost : List Message
  pub parts : handed ≡ sent ++ first ∷ lost
  pub written : Appends old new (frames sent)
  pub unsent : Unsent fault first

-- all that was handed out
abbrev pub Written : List Message → Option (List ℕ) → Option (List ℕ)
    → Result (Unit {0}) StreamFault → Type 0
Written handed old new (Ok done) = Appends old new (frames handed)
Written handed old new (Err (Frame fault)) = IsCut fault handed old new
Written handed old new (Err Write) = IsBroken (frames handed) old new
Written handed old new (Err Read) = ⊥
