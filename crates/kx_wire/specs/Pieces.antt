-- A stream that comes in pieces.
use Rattle.std.specs.Prelude.{◌≡◌, ℕ, List, [], ◌∷◌, ◌++◌, Result, MatchResult}
use Rattle.std.specs.List.{flat_map}
use Rattle.kx_wire.specs.Frames.{Stream, Fed}
use Rattle.kx_message.specs.declared.message.Message.{Message}
use Rattle.kx_wire.specs.declared.fault.FrameFault.{FrameFault}
use Rattle.kx_wire.specs.declared.fault.FrameFault.TheVariants as fault

-- the pieces, one behind the other
abbrev pub joined : List (List ℕ) → List ℕ
joined = flat_map (λ piece. piece)

-- whatever feeding the pieces answers, these messages come and no others, up to an answer that
-- memory ran out; there is no other fault
abbrev pub Comes : Stream → List (List ℕ) → List Message → Type 0
Comes stream [] messages = messages ≡ []
Comes stream (piece ∷ pieces) messages =
    (answer : Result (List Message) FrameFault) (new : Stream) → Fed stream piece answer new
    → MatchResult answer
    (λ first. (others : List Message) × (messages ≡ first ++ others) × Comes new pieces others)
    (λ f. f ≡ fault.Memory)
