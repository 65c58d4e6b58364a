-- What a system with processors does is what a world without them does, whose clients are told the
-- commands that the processors' polls come to.
use Rattle.std.specs.Prelude.{ℕ, List, [], ◌∷◌, ◌++◌, map, Option, Some, None, if◌then◌else◌}
use Rattle.kx_message.specs.declared.message.NodeId.TheVariants as node
use Rattle.kx_model.specs.Client.{Command, Commanded, Declines, Does, Poll}
use Rattle.kx_model.specs.Disk.{Works}
use Rattle.kx_model.specs.Step.{Input, Commands}
use Rattle.kx_model.specs.World.{Event, Make, Hand}
use Rattle.kx_system.specs.Processor.{Processor, is_waiting, next_commands, processor_command}
use Rattle.kx_system.specs.System.{System, SystemEvent, Turn, MakeProcessor, Happens, system_step}
use Rattle.kx_system.specs.System.{turn_of}

-- the client of the processor is told these
abbrev pub commands_to : ℕ → List Command → List Event
commands_to number commands = map (λ what. Hand (node.Client number) (Commands what) Works) commands

-- a poll is no command of a client, and changes nothing there
abbrev pub no_change : ℕ → List Event
no_change number = commands_to number (Poll ∷ [])

-- the commands of a poll that isn't refused, none while a request is unanswered
abbrev pub commands_polled : Processor → List Command
commands_polled p = if is_waiting p.client then []
    else next_commands p.client p.processing p.processing.stage

abbrev pub or_poll : List Command → List Command
or_poll [] = Poll ∷ []
or_poll (what ∷ more) = what ∷ more

-- what a processor's client is told when the processor is told something
abbrev pub client_commands : Processor → Command → Commanded → List Command
client_commands p what (Declines fault) = Poll ∷ []
client_commands p Poll (Does client sent) = or_poll (commands_polled p)
client_commands p what (Does client sent) = what ∷ []

abbrev pub turn_events : Processor → Event → Input → List Event
turn_events p event (Commands what) =
    commands_to p.client.number (client_commands p what (processor_command p what))
turn_events p event input = event ∷ []

abbrev pub or_turn : Event → Option Turn → List Event
or_turn event None = event ∷ []
or_turn event (Some turn) = turn_events turn.processor event turn.input

-- the events of the world without processors
abbrev pub events_of : System → SystemEvent → List Event
events_of s (MakeProcessor number txn timeout group inputs image) = Make number txn timeout ∷ []
events_of s (Happens event) = or_turn event (turn_of s event)

unfoldable pub schedule_of : List SystemEvent → System → List Event
schedule_of [] s = []
schedule_of (event ∷ events) s =
    events_of s event ++ schedule_of events (system_step s event).0
