-- What a reader of a stream of frames returns.
use Rattle.std.specs.Prelude.{◌≡◌, ◌≤◌, ℕ, List, [], length, Option, Some, None, Result, Ok, Err}
use Rattle.std.specs.Global.{Vec}
use Rattle.std.specs.Io.KnownBytes.{IsAtEnd}
use Rattle.kx_message.specs.declared.message.Message.{Message}
use Rattle.kx_stream.specs.declared.fault.StreamFault.{StreamFault}
use Rattle.kx_stream.specs.declared.fault.StreamFault.TheVariants.{Read, Write, Frame}
use Rattle.kx_wire.specs.Frames.{Faulty, Fed, Over, Reads, Stream}
use Rattle.kx_wire.specs.declared.fault.FrameFault.TheVariants.{Failed}

-- an answer, with its messages as a list
abbrev pub given_by : Result (Option (Vec Message)) StreamFault
    → Result (Option (List Message)) StreamFault
given_by (Ok (Some messages)) = Ok (Some messages.items)
given_by (Ok None) = Ok None
given_by (Err fault) = Err fault

-- a read that gave these bytes, after those that are held of the next frame
abbrev pub ReadGives : List ℕ → List ℕ → Option (List ℕ)
    → Result (Option (List Message)) StreamFault → Stream → Type 0
ReadGives partial read left (Ok (Some messages)) new =
    (1 ≤ length read) × Fed (Reads partial) read (Ok messages) new
ReadGives partial read left (Ok None) new =
    (read ≡ []) × IsAtEnd left × (new ≡ Reads partial)
ReadGives partial read left (Err Read) new = (read ≡ []) × (new ≡ Reads partial)
ReadGives partial read left (Err Write) new = ⊥
ReadGives partial read left (Err (Frame fault)) new = Fed (Reads partial) read (Err fault) new

-- a fault that waits is answered before anything is read
abbrev pub Gives : Stream → List ℕ → Option (List ℕ)
    → Result (Option (List Message)) StreamFault → Stream → Type 0
Gives (Reads partial) read left answer new = ReadGives partial read left answer new
Gives (Faulty fault) read left answer new =
    (read ≡ []) × (answer ≡ Err (Frame fault)) × (new ≡ Over)
Gives Over read left answer new = (read ≡ []) × (answer ≡ Err (Frame Failed)) × (new ≡ Over)
