-- What traces did as a schedule of the whole system.
use Rattle.std.specs.Prelude.{◌≡◌, ◌≢◌, ℕ, List, [], ◌∷◌, ◌++◌, All, slice_get, Some}
use Rattle.kx_audit.specs.Joined.{Passed, at_node, handed_out, led_to, steps_in}
use Rattle.kx_audit.specs.Making.{NodeMaking, OfClient, OfCoordinator, OfPartition, Trail}
use Rattle.kx_audit.specs.Making.{making_event, makings, named, node_of}
use Rattle.kx_audit.specs.Nodes.{node_in}
use Rattle.kx_machine.specs.Meaning.{input_of, note_of}
use Rattle.kx_machine.specs.declared.input.Input.{Input}
use Rattle.kx_machine.specs.declared.input.Input.TheVariants as input
use Rattle.kx_message.specs.Ranges.{IsPartition, data_partitions}
use Rattle.kx_message.specs.declared.message.Message.{Message}
use Rattle.kx_message.specs.declared.message.NodeId.{NodeId}
use Rattle.kx_model.specs.Disk.{Store}
use Rattle.kx_model.specs.World.{Deliver, Hand, IsInput, start}
use Rattle.kx_nodes.specs.Replay.{Replays}
use Rattle.kx_nodes.specs.declared.trace.Step.{Step}
use Rattle.kx_system.specs.System.{Happens, IsSystemEvent, IsSystemSchedule, System, SystemEvent}
use Rattle.kx_system.specs.System.{run_system, start_system, system_step}

------ names, numbers and bytes are in their ranges

abbrev pub IsNodeMaking : NodeMaking → Type 0
IsNodeMaking OfCoordinator = Unit {0}
IsNodeMaking (OfPartition number) = IsPartition number
IsNodeMaking (OfClient c) = IsSystemEvent (making_event c)

abbrev pub IsStep : Step → Type 0
IsStep step = IsInput (input_of step.input)

pub record Fits (trail : Trail) : Type 0 where
  pub made : IsNodeMaking trail.made
  pub steps : All IsStep trail.steps

abbrev pub AllFit : List Trail → Type 0
AllFit trails = (k : ℕ) (t : Trail) → slice_get trails k ≡ Some t → Fits t

------ a step is an event

-- the node is handed the input; a message comes by its number among these
abbrev pub IsEventOf : List Message → NodeId → Input → Store → SystemEvent → Type 0
IsEventOf sent to (input.Deliver message) store event =
    (which : ℕ) × (slice_get sent which ≡ Some message) × (event ≡ Happens (Deliver which to store))
IsEventOf sent to other store event = event ≡ Happens (Hand to (input_of other) store)

-- the event is the step: the node comes to stand where the step leaves it, and answers as it does,
-- and no other node changes
pub record Occurs (s : System) (p : Passed) (event : SystemEvent) : Type 0 where
  pub store : Store
  pub is : IsEventOf s.world.sent p.node p.step.input store event
  pub node_is : node_in (system_step s event).0 p.node ≡ Some p.after
  pub others : (other : NodeId) → other ≢ p.node
      → node_in (system_step s event).0 other ≡ node_in s other
  pub sent : (system_step s event).0.world.sent ≡ s.world.sent ++ p.taken.messages
  pub note_is : p.taken.note ≡ note_of (system_step s event).1

-- the events are the steps, one after the other
abbrev pub AllOccur : System → List Passed → List SystemEvent → Type 0
AllOccur s [] [] = Unit {0}
AllOccur s (p ∷ ps) (event ∷ events) =
    Occurs s p event × AllOccur (system_step s event).0 ps events
AllOccur s ps events = ⊥

------ the whole schedule

-- a system with so many data partitions, if these messages arrived from outside
abbrev pub start_with : List Message → ℕ → System
start_with arrived count =
    record (start_system count) { world = record (start count) { sent = arrived } }

-- with all data partitions, and with the clients of the traces
abbrev pub made_system : List Message → List Trail → System
made_system arrived trails = run_system (makings trails) (start_with arrived data_partitions)

-- these are the steps of the trace, and its node stands where they lead
pub record StandsIn (s : System) (t : Trail) (way : List Passed) : Type 0 where
  pub steps_are : steps_in way ≡ t.steps
  pub node_is : node_in s (named t.made) ≡ Some (led_to (node_of t.made) way)
  pub replays : Replays (node_of t.made) t.steps (led_to (node_of t.made) way)

-- no trace is of a node of this name
abbrev pub IsUntraced : List Trail → NodeId → Type 0
IsUntraced trails name =
    (k : ℕ) (t : Trail) → slice_get trails k ≡ Some t → name ≢ named t.made

-- after these messages arrived, and after the making of the clients, these events happened
pub record IsScheduleOf (arrived : List Message) (trails : List Trail) (merged : List Passed)
    (events : List SystemEvent) (s : System) : Type 0 where
  pub is_schedule : IsSystemSchedule (makings trails ++ events)
  pub is_run : s ≡ run_system (makings trails ++ events) (start_with arrived data_partitions)
  -- they are the steps of the traces
  pub occur : AllOccur (made_system arrived trails) merged events
  pub stand : (k : ℕ) (t : Trail) → slice_get trails k ≡ Some t
      → StandsIn s t (at_node (named t.made) merged)
  -- any other node is as it was in the beginning, or isn't there
  pub rest : (name : NodeId) → IsUntraced trails name
      → node_in s name ≡ node_in (start_system data_partitions) name
  -- all that was sent is what arrived and the messages of the steps
  pub sent : s.world.sent ≡ arrived ++ handed_out merged

-- what the traces tell is what happened in a schedule of the whole system
pub record IsWhole (arrived : List Message) (trails : List Trail) (merged : List Passed)
    : Type 0 where
  pub events : List SystemEvent
  pub system : System
  pub is : IsScheduleOf arrived trails merged events system
