-- Where memory may be lacking for what a client takes: only if it then sends something, and for a
-- page that a processor awaits. Whatever the rules refuse needs none.
use Rattle.std.specs.Prelude.{◌≡◌, true}
use Rattle.kx_client.specs.Calls.{HandsOut}
use Rattle.kx_model.specs.Client.{Client, Command, Init, Poll, Resend, command}
use Rattle.kx_model.specs.Replies.{is_awaited}
use Rattle.kx_model.specs.Step.{Input, Comes, Commands}
use Rattle.kx_processor.specs.Calls.{AsksNext, HasPage, MaySend}
use Rattle.kx_system.specs.Processor.{Processor}

-- a client that is told each thing that it does
abbrev pub InputMayLack : Client → Input → Type 0
InputMayLack c (Commands told) = HandsOut (command c told)
InputMayLack c input = ⊥

-- a processor, told something: what isn't a processor's is refused
abbrev pub TurnMayLack : Processor → Command → Type 0
TurnMayLack p Init = MaySend p Init
TurnMayLack p Resend = MaySend p Resend
TurnMayLack p Poll = AsksNext p
TurnMayLack p told = ⊥

abbrev pub ProcessorInputMayLack : Processor → Input → Type 0
ProcessorInputMayLack p (Commands told) = TurnMayLack p told
ProcessorInputMayLack p (Comes m) = (is_awaited p.client m ≡ true) × HasPage m
ProcessorInputMayLack p input = ⊥
