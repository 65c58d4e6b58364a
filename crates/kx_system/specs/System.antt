-- The whole system, some of whose clients are processors.
use Rattle.std.specs.Prelude.{ℕ, ◌≤◌, List, [], ◌∷◌, ◌++◌, find, map, Option, Some, None}
use Rattle.std.specs.Prelude.{All, slice_get, ◌==◌, if◌then◌else◌}
use Rattle.kx_varint.specs.Text.{IsBytes}
use Rattle.kx_batch.specs.Record.{Record}
use Rattle.kx_message.specs.Ranges.{IsName}
use Rattle.kx_message.specs.declared.message.Message.{Message}
use Rattle.kx_message.specs.declared.message.NodeId.{NodeId}
use Rattle.kx_message.specs.declared.message.NodeId.TheVariants as node
use Rattle.kx_model.specs.Client.{Client}
use Rattle.kx_model.specs.Step.{Input, Comes, Done, NodeStep, StepNote}
use Rattle.kx_model.specs.World.{Event, IsEvent, World, Make, Deliver, Hand, client_at, is_new}
use Rattle.kx_model.specs.World.{start, step, with_client}
use Rattle.kx_system.specs.Processor.{Images, Processing, Processor, new_processing}
use Rattle.kx_system.specs.Processor.{processor_step}

pub record System : Type 0 where
  pub world : World
  -- what the clients among them that are processors are beside
  pub processors : List Processing

-- so many data partitions, with nothing in them
abbrev pub start_system : ℕ → System
start_system count = record { world = start count; processors = [] }

pub data SystemEvent : Type 0 where
  MakeProcessor : (client : ℕ) (txn : Option (List ℕ)) (timeout : ℕ) (group : List ℕ)
      (inputs : ℕ) (image : Images) → SystemEvent
  Happens : (event : Event) → SystemEvent

-- the system after an event, and the note of it
abbrev pub SystemStepped : Type 0
SystemStepped = System × StepNote

------ a processor's turn

abbrev pub processing_at : System → ℕ → Option Processing
processing_at s number = find (λ p. p.number == number) s.processors

-- a processor and what it is handed
pub record Turn : Type 0 where
  pub processor : Processor
  pub input : Input

abbrev pub turn_with : Input → Option Client → Option Processing → Option Turn
turn_with input None processing = None
turn_with input (Some client) None = None
turn_with input (Some client) (Some processing) = Some (record {
  processor = record { client = client; processing = processing };
  input = input;
})

abbrev pub turn_at : System → NodeId → Input → Option Turn
turn_at s node.Coordinator input = None
turn_at s (node.Partition number) input = None
turn_at s (node.Client number) input =
    turn_with input (client_at s.world number) (processing_at s number)

abbrev pub turn_delivered : System → NodeId → Option Message → Option Turn
turn_delivered s to None = None
turn_delivered s to (Some m) = turn_at s to (Comes m)

-- a message comes by its number alone
abbrev pub turn_handed : System → NodeId → Input → Option Turn
turn_handed s to (Comes m) = None
turn_handed s to input = turn_at s to input

-- the turn of a processor that an event is, if it is one
abbrev pub turn_of : System → Event → Option Turn
turn_of s (Make client txn timeout) = None
turn_of s (Deliver which to store) = turn_delivered s to (slice_get s.world.sent which)
turn_of s (Hand to input store) = turn_handed s to input

------ a step, and a schedule

abbrev pub with_processing : List Processing → Processing → List Processing
with_processing processors p = map (λ q. if q.number == p.number then p else q) processors

abbrev pub with_processor : System → Processor → List Message → System
with_processor s p messages = record {
  world = with_client s.world p.client messages;
  processors = with_processing s.processors p.processing;
}

abbrev pub happens : System → Event → Option Turn → SystemStepped
happens s event None =
    (record s { world = (step s.world event).0 }, (step s.world event).1)
happens s event (Some turn) =
    let after : NodeStep Processor = processor_step turn.processor turn.input in
    (with_processor s after.state after.messages, after.note)

unfoldable pub system_step : System → SystemEvent → SystemStepped
system_step s (MakeProcessor number txn timeout group inputs image) = (
  record {
    world = (step s.world (Make number txn timeout)).0;
    processors = if is_new number s.world.clients
        then s.processors ++ new_processing number group inputs image ∷ [] else s.processors;
  },
  Done,
)
system_step s (Happens event) = happens s event (turn_of s event)

-- a whole schedule
unfoldable pub run_system : List SystemEvent → System → System
run_system [] s = s
run_system (event ∷ events) s = run_system events (system_step s event).0

------ what a schedule consists of

-- the most input partitions of a processor
abbrev pub most_inputs : ℕ
most_inputs = 8

abbrev pub IsSystemEvent : SystemEvent → Type 0
IsSystemEvent (MakeProcessor client txn timeout group inputs image) =
    IsEvent (Make client txn timeout) × IsName group × (1 ≤ inputs) × (inputs ≤ most_inputs)
    × ((r : Record) → IsBytes (image r))
IsSystemEvent (Happens event) = IsEvent event

abbrev pub IsSystemSchedule : List SystemEvent → Type 0
IsSystemSchedule events = All IsSystemEvent events
