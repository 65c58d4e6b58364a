-- What was read of a stream, what the machine did with it, and what was written.
use Rattle.std.specs.Prelude.{◌≡◌, ◌≤◌, ◌^◌, ◌⊎◌, ℕ, List, [], ◌++◌, length, Option, Result, Ok}
use Rattle.std.specs.Prelude.{Err, OnOk}
use Rattle.std.specs.List.{AllByRecursion}
use Rattle.std.specs.Io.KnownBytes.{Appends, IsAtEnd}
use Rattle.kx_machine.specs.Meaning.{NodeState}
use Rattle.kx_message.specs.Message.{IsSendable}
use Rattle.kx_message.specs.declared.message.Message.{Message}
use Rattle.kx_model.specs.Disk.{Store}
use Rattle.kx_stream.specs.Sending.{IsBroken, IsCut, Written, frames}
use Rattle.kx_stream.specs.Serving.{Answers, Serves}
use Rattle.kx_stream.specs.declared.fault.StreamFault.{StreamFault}
use Rattle.kx_stream.specs.declared.fault.StreamFault.TheVariants.{Read, Write, Frame}
use Rattle.kx_stream.specs.declared.stream.ReadsEnd.{ReadsEnd}
use Rattle.kx_stream.specs.declared.stream.ReadsEnd.TheVariants.{AtEnd, ReadFailed, TooMany}
use Rattle.kx_wire.specs.Frames.{Bad, More, Stream, Reads, frame_at}
use Rattle.kx_wire.specs.declared.fault.FrameFault.{FrameFault}
use Rattle.kx_wire.specs.declared.fault.FrameFault.TheVariants.{Memory}

-- why a stream ends at a frame: no frame of a message stands there, or memory ran out for reading
-- it, after all that was handed out is written; or a message that was handed out isn't written
abbrev pub Breaks : FrameFault → List ℕ → List Message → Option (List ℕ) → Option (List ℕ) → Type 0
Breaks fault behind handed old new =
    (((frame_at behind ≡ Bad fault) ⊎ (fault ≡ Memory)) × Appends old new (frames handed))
    ⊎ IsCut fault handed old new

-- by the outcome, if these bytes stand behind the messages that were taken: less than a frame,
-- where the stream ended or wasn't read further; if a write failed, a front of the frames of what
-- was handed out is written
abbrev pub Ends : List ℕ → List Message → Option (List ℕ) → Option (List ℕ)
    → Result (Unit {0}) StreamFault → Type 0
Ends behind handed old new (Ok done) = (frame_at behind ≡ More) × Appends old new (frames handed)
Ends behind handed old new (Err Read) =
    (frame_at behind ≡ More) × Appends old new (frames handed)
Ends behind handed old new (Err Write) = IsBroken (frames handed) old new
Ends behind handed old new (Err (Frame fault)) = Breaks fault behind handed old new

-- why no more is read, if these bytes were read: the reader gave nothing; a read failed; or each
-- of 2^32 reads gave something
abbrev pub IsDone : ReadsEnd → List ℕ → Option (List ℕ) → Type 0
IsDone AtEnd read left = IsAtEnd left
IsDone ReadFailed read left = Unit {0}
IsDone TooMany read left = 2 ^ 32 ≤ length read

module _ {M : Type 0} (stands : NodeState → M → Type 0)
    (allows : M → Option ℕ → Store → Type 0) where
  -- the bytes begin with the frames of messages, which the machine took, one after the other; what
  -- it handed out is written
  pub record Served (bytes : List ℕ) (before after : M) (old new : Option (List ℕ))
      (result : Result (Unit {0}) StreamFault) : Type 0 where
    pub messages : List Message
    pub behind : List ℕ
    pub parts : bytes ≡ frames messages ++ behind
    pub each : AllByRecursion IsSendable messages
    pub handed : List Message
    pub serves : Serves stands allows before messages handed after
    pub ends : Ends behind handed old new result

  ------ what the parts of a stream say

  pub record OneServed (message : Message) (before after : M) (old new : Option (List ℕ))
      (result : Result (Unit {0}) StreamFault) : Type 0 where
    pub handed : List Message
    pub answers : Answers stands allows before message handed after
    pub written : Written handed old new result

  -- the machine took those in front, and all if nothing failed
  pub record AllServed (messages : List Message) (before after : M) (old new : Option (List ℕ))
      (result : Result (Unit {0}) StreamFault) : Type 0 where
    pub front : List Message
    pub untaken : List Message
    pub parts : messages ≡ front ++ untaken
    pub all : OnOk result (untaken ≡ [])
    pub handed : List Message
    pub serves : Serves stands allows before front handed after
    pub written : Written handed old new result

  -- a piece behind what is held back of the stream; what stands behind its messages is held back
  pub record PieceServed (partial piece : List ℕ) (before after : M) (stream : Stream)
      (old new : Option (List ℕ)) (result : Result (Unit {0}) StreamFault) : Type 0 where
    pub served : Served (partial ++ piece) before after old new result
    pub held : OnOk result (stream ≡ Reads served.behind)
