-- The frame at the front of some bytes, and what feeding a stream of frames answers.
use Rattle.std.specs.Prelude.{◌≡◌, ◌≢◌, ℕ, ◌+◌, ◌-◌, List, [], ◌∷◌, ◌++◌, length, take}
use Rattle.std.specs.Prelude.{drop, Option, Some, None, Result, Ok, Err, nat_lt, ◌==◌}
use Rattle.std.specs.Prelude.{if◌then◌else◌}
use Rattle.std.specs.List.{flat_map, AllByRecursion}
use Rattle.std.specs.Int.{w32}
use Rattle.std.specs.Global.{Vec}
use Rattle.kx_message.specs.Reader.{unsigned, whole}
use Rattle.kx_wire.specs.Reading.{is_kind, fields_at}
use Rattle.kx_message.specs.Fields.{frame_text}
use Rattle.kx_message.specs.Sizes.{longest_frame}
use Rattle.kx_message.specs.Message.{IsSendable}
use Rattle.kx_message.specs.declared.message.Message.{Message}
use Rattle.kx_wire.specs.declared.fault.FrameFault.{FrameFault}
use Rattle.kx_wire.specs.declared.fault.FrameFault.TheVariants as fault

------ one frame

-- what stands at the front of some bytes
pub data Front : Type 0 where
  -- the frame of a message, and the bytes behind it
  Whole : Message → List ℕ → Front
  -- no frame, however the bytes go on
  Bad : FrameFault → Front
  -- less than a frame
  More : Front

abbrev pub of_fields : Option Message → List ℕ → Front
of_fields None rest = Bad fault.Field
of_fields (Some m) rest = Whole m rest

-- a frame of n bytes behind its length: the kind is judged at once, the fields when all are there
abbrev pub of_length : ℕ → List ℕ → Front
of_length n [] = More
of_length n (kind ∷ bytes) =
    if is_kind kind
    then (if nat_lt (length bytes + 1) n then More
    else of_fields (whole (fields_at kind (take (n - 1) bytes))) (drop (n - 1) bytes))
    else Bad fault.Kind

abbrev pub of_number : Option (ℕ × List ℕ) → Front
of_number None = More
of_number (Some x) =
    if nat_lt longest_frame x.0 then Bad fault.TooLong
    else (if x.0 == 0 then Bad fault.Kind else of_length x.0 x.1)

unfoldable pub frame_at : List ℕ → Front
frame_at bytes = of_number (unsigned w32 bytes)

-- the fault is the one that stands there, or memory ran out
abbrev pub Faults : FrameFault → Front → Type 0
Faults fault.Memory front = Unit {0}
Faults fault.TooLong front = front ≡ Bad fault.TooLong
Faults fault.Kind front = front ≡ Bad fault.Kind
Faults fault.Field front = front ≡ Bad fault.Field
Faults fault.Failed front = ⊥

-- what ends the messages at the front: more is needed, or a fault
abbrev pub Ends : Option FrameFault → Front → Type 0
Ends None front = front ≡ More
Ends (Some f) front = front ≡ Bad f

------ a stream of frames

-- a stream is these messages, and then the rest
pub record Splits (bytes : List ℕ) (messages : List Message) (rest : List ℕ) : Type 0 where
  pub whole : bytes ≡ flat_map frame_text messages ++ rest
  pub each : AllByRecursion IsSendable messages

-- what is known of a stream: the bytes held back, a fault that is still to be answered, or that it
-- failed
pub data Stream : Type 0 where
  Reads : List ℕ → Stream
  Faulty : FrameFault → Stream
  Over : Stream

-- where a stream is after these messages, by what is at the front of the rest; a fault
-- waits only for messages that are given first
abbrev pub Stands : Front → List Message → List ℕ → Stream → Type 0
Stands (Whole m behind) messages rest new = ⊥
Stands (Bad f) messages rest new = (messages ≢ []) × (new ≡ Faulty f)
Stands More messages rest new = new ≡ Reads rest

-- an answer, with its messages as a list
abbrev pub answer_of : Result (Vec Message) FrameFault → Result (List Message) FrameFault
answer_of (Ok messages) = Ok messages.items
answer_of (Err f) = Err f

-- feeding a piece may answer this and leave the stream so
abbrev pub Fed : Stream → List ℕ → Result (List Message) FrameFault → Stream → Type 0
Fed (Reads partial) piece (Ok messages) new =
    (rest : List ℕ) × Splits (partial ++ piece) messages rest
    × Stands (frame_at rest) messages rest new
Fed (Reads partial) piece (Err fault.Memory) new = new ≡ Reads partial
Fed (Reads partial) piece (Err fault.TooLong) new =
    (frame_at (partial ++ piece) ≡ Bad fault.TooLong) × (new ≡ Over)
Fed (Reads partial) piece (Err fault.Kind) new =
    (frame_at (partial ++ piece) ≡ Bad fault.Kind) × (new ≡ Over)
Fed (Reads partial) piece (Err fault.Field) new =
    (frame_at (partial ++ piece) ≡ Bad fault.Field) × (new ≡ Over)
Fed (Reads partial) piece (Err fault.Failed) new = ⊥
Fed (Faulty f) piece answer new = (answer ≡ Err f) × (new ≡ Over)
Fed Over piece answer new = (answer ≡ Err fault.Failed) × (new ≡ Over)
