-- A world of running nodes, and the system of the definitions for which it stands.
use Rattle.std.specs.Prelude.{◌≡◌, ◌<◌, ◌++◌, ◌&&◌, ℕ, Bool, true, false, not, List, [], ◌∷◌}
use Rattle.std.specs.Prelude.{length, slice_get, Option, Some, None, MatchResult, Result, Ok, Err}
use Rattle.std.specs.Prelude.{All, take}
use Rattle.std.specs.declared.alloc.AllocError.{AllocError}
use Rattle.kx_core.specs.Clients.{clients_in, processors_in}
use Rattle.kx_core.specs.Sent.{joined}
use Rattle.kx_client_node.specs.declared.any_client.AnyClient.{AnyClient}
use Rattle.kx_core.specs.declared.event.Event as happening
use Rattle.kx_core.specs.declared.event.Event.TheVariants as event
use Rattle.kx_core.specs.declared.event.Happened.{Happened}
use Rattle.kx_core.specs.declared.fault.RunFault.{RunFault}
use Rattle.kx_core.specs.declared.fault.RunFault.TheVariants as fault
use Rattle.kx_core.specs.declared.hand.Given as handing
use Rattle.kx_core.specs.declared.hand.Given.TheVariants as giving
use Rattle.kx_machine.specs.Meaning.{NodeState, AtCoordinator, AtPartition, entry_bytes, input_of}
use Rattle.kx_machine.specs.Meaning.{note_of}
use Rattle.kx_machine.specs.Stores.{IsMode}
use Rattle.kx_machine.specs.declared.machine.StoreMode.{StoreMode}
use Rattle.kx_machine.specs.declared.taken.Note.{Note}
use Rattle.kx_machine.specs.declared.taken.Taken.{Taken}
use Rattle.kx_message.specs.Ranges.{offsets_partition}
use Rattle.kx_message.specs.declared.message.Message.{Message}
use Rattle.kx_message.specs.declared.message.NodeId.{NodeId}
use Rattle.kx_message.specs.declared.message.NodeId.TheVariants as node
use Rattle.kx_model.specs.Disk.{Store}
use Rattle.kx_model.specs.PartitionNode.{Partition}
use Rattle.kx_model.specs.Step.{Input, Comes, NodeStep, StepNote, Unread, Unwritten}
use Rattle.kx_model.specs.World as world
use Rattle.kx_model.specs.World.{World, Make, Deliver, Hand, Stepped, handed}
use Rattle.kx_model.specs.World.{data_partition_at, partition_at}
use Rattle.kx_system.specs.Processor.{Images, Processor, processor_step}
use Rattle.kx_pipeline.specs.OpenSystems.{Arrives, Inside, IsOpenSystemSchedule, OpenSystemEvent}
use Rattle.kx_pipeline.specs.OpenSystems.{open_system_step, run_open_system}
use Rattle.kx_system.specs.System.{System, SystemEvent, MakeProcessor, Happens}
use Rattle.kx_system.specs.System.{SystemStepped, Turn, start_system, system_step, turn_at}
use Rattle.kx_system.specs.System.{with_processor}

------ the entry that a node appends

abbrev pub partition_node : ℕ → Option Partition → Option NodeState
partition_node number None = None
partition_node number (Some p) = Some (AtPartition number p)

-- a node of a world that keeps a log
abbrev pub logging_node : World → NodeId → Option NodeState
logging_node w node.Coordinator = Some (AtCoordinator w.coordinator)
logging_node w (node.Partition number) = partition_node number (partition_at w number)
logging_node w (node.Client number) = None

abbrev pub bytes_for : Option NodeState → Input → Option ℕ
bytes_for None input = None
bytes_for (Some before) input = entry_bytes before input

-- the length in bytes of the entry that a node of a world appends in a step, if it appends one
abbrev pub bytes_at : World → NodeId → Input → Option ℕ
bytes_at w to input = bytes_for (logging_node w to) input

abbrev pub bytes_delivered : World → NodeId → Option Message → Option ℕ
bytes_delivered w to None = None
bytes_delivered w to (Some message) = bytes_at w to (Comes message)

-- a message comes by its number alone
abbrev pub bytes_handed : World → NodeId → Input → Option ℕ
bytes_handed w to (Comes message) = None
bytes_handed w to input = bytes_at w to input

------ what happens

-- what a node is handed
abbrev pub given : handing.Given → Input
given (giving.Message message) = Comes message.now
given (giving.Input input) = input_of input.now

-- the event of the definitions that happened to a system, by what the store did
abbrev pub IsEvent : {F : Type 0} → (F → Images) → System → happening.Event F → OpenSystemEvent
    → Type 0
IsEvent image_of s (event.Make client txn timeout) e =
    e ≡ Inside (Happens (Make client txn timeout))
IsEvent image_of s (event.MakeProcessor client txn timeout group inputs process) e =
    e ≡ Inside (MakeProcessor client txn timeout group inputs (image_of process))
IsEvent image_of s (event.Deliver number to mode) e =
    (store : Store) × IsMode mode (bytes_delivered s.world to (slice_get s.world.sent number)) store
    × (e ≡ Inside (Happens (Deliver number to store)))
IsEvent image_of s (event.Hand to input mode) e =
    (store : Store) × IsMode mode (bytes_handed s.world to (input_of input)) store
    × (e ≡ Inside (Happens (Hand to (input_of input) store)))
IsEvent image_of s (event.Arrive request) e = e ≡ Arrives request

-- a request arrives from outside
abbrev pub is_arrival : {F : Type 0} → happening.Event F → Bool
is_arrival (event.Arrive request) = true
is_arrival other = false

------ whether a node's store fails

abbrev pub closed_in : Option Partition → Bool
closed_in None = false
closed_in (Some p) = p.disk.closed

-- whether a node appends nothing until it is restarted
abbrev pub is_closed : World → NodeId → Bool
is_closed w node.Coordinator = w.coordinator.disk.closed
is_closed w (node.Partition number) = closed_in (partition_at w number)
is_closed w (node.Client number) = false

abbrev pub fails_by : StepNote → Bool → Bool
fails_by Unread closes = true
fails_by Unwritten closes = true
fails_by note closes = closes

-- an append of the node failed, which closes it, or a restart
abbrev pub fails_at : World → NodeId → Stepped → Bool
fails_at w place after = fails_by after.1 (not (is_closed w place) && is_closed after.0 place)

-- the node at which an event is
abbrev pub place_in : world.Event → NodeId
place_in (Make client txn timeout) = node.Client client
place_in (Deliver which to store) = to
place_in (Hand to input store) = to

abbrev pub place_of : SystemEvent → NodeId
place_of (MakeProcessor client txn timeout group inputs image) = node.Client client
place_of (Happens event) = place_in event

-- the same of a system
abbrev pub fails_in : System → NodeId → SystemStepped → Bool
fails_in s place after = fails_at s.world place (after.0.world, after.1)

-- the store of its node fails in an event
abbrev pub store_fails : System → SystemEvent → Bool
store_fails s event = fails_in s (place_of event) (system_step s event)

-- no store fails if a request arrives
abbrev pub open_store_fails : System → OpenSystemEvent → Bool
open_store_fails s (Inside event) = store_fails s event
open_store_fails s (Arrives request) = false

------ nodes

-- the nodes of a running world, whatever they are made of
pub record Nodes (C P O F : Type 0) : Type 0 where
  pub coordinator : C
  pub partitions : List P
  pub offsets : O
  pub clients : List (AnyClient F)
  pub clock : ℕ

-- each node stands for one of the definitions
pub record StandFor {C P O F : Type 0} (Coordinates : NodeState → C → Type 0)
    (Serves : NodeState → P → Type 0) (Groups : NodeState → O → Type 0) (nodes : Nodes C P O F)
    (w : World) : Type 0 where
  pub coordinator : Coordinates (AtCoordinator w.coordinator) nodes.coordinator
  pub count : length w.partitions ≡ length nodes.partitions
  pub few : length w.partitions < offsets_partition
  pub partitions : (number : ℕ) (p : Partition) (node : P) → slice_get w.partitions number ≡ Some p
      → slice_get nodes.partitions number ≡ Some node → Serves (AtPartition number p) node
  pub offsets : Groups (AtPartition offsets_partition w.offsets) nodes.offsets
  pub clients : clients_in nodes.clients ≡ w.clients
  pub clock : nodes.clock ≡ w.clock

-- the same of a system, some of whose clients are processors
pub record StandForAll {C P O F : Type 0} (Coordinates : NodeState → C → Type 0)
    (Serves : NodeState → P → Type 0) (Groups : NodeState → O → Type 0) (image_of : F → Images)
    (nodes : Nodes C P O F) (s : System) : Type 0 where
  pub world : StandFor Coordinates Serves Groups nodes s.world
  pub processors : processors_in image_of nodes.clients ≡ s.processors

-- the server stands for the data partition of this number
pub record ServesAt {P : Type 0} (Serves : NodeState → P → Type 0) (w : World) (number : ℕ)
    (server : P) : Type 0 where
  pub partition : Partition
  pub there : data_partition_at w number ≡ Some partition
  pub serves : Serves (AtPartition number partition) server

-- a node of a world took what it was handed, while its store did what it was to do
pub record IsHanded (w : World) (to : NodeId) (mode : StoreMode) (input : Input)
    (StandFor : World → Type 0) (taken : Taken) : Type 0 where
  pub store : Store
  pub allowed : IsMode mode (bytes_at w to input) store
  pub stand : StandFor (handed w to store input).0
  pub sent : (handed w to store input).0.sent ≡ w.sent ++ taken.messages
  pub note_is : taken.note ≡ note_of (handed w to store input).1
  pub failed_is : taken.failed ≡ fails_at w to (handed w to store input)

-- what comes of it for every world for which the nodes stand; for want of memory they stand for it
-- still
abbrev pub Hands : (World → Type 0) → (World → Type 0) → NodeId → StoreMode → Input
    → Result Taken AllocError → Type 0
Hands Before After to mode input result = (w : World) → Before w
    → MatchResult result (IsHanded w to mode input After) (λ refused. After w)

-- a system after a step of its world, which may have been a processor's turn
abbrev pub after_turn : System → Stepped → Option Turn → SystemStepped
after_turn s stepped None = (record s { world = stepped.0 }, stepped.1)
after_turn s stepped (Some turn) =
    let after : NodeStep Processor = processor_step turn.processor turn.input in
    (with_processor s after.state after.messages, after.note)

abbrev pub handed_in : System → NodeId → Store → Input → SystemStepped
handed_in s to store input = after_turn s (handed s.world to store input) (turn_at s to input)

-- a node of a system took what it was handed, while its store did what it was to do
pub record IsHandedIn (s : System) (to : NodeId) (mode : StoreMode) (input : Input)
    (Stand : System → Type 0) (taken : Taken) : Type 0 where
  pub store : Store
  pub allowed : IsMode mode (bytes_at s.world to input) store
  pub stand : Stand (handed_in s to store input).0
  pub sent : (handed_in s to store input).0.world.sent ≡ s.world.sent ++ taken.messages
  pub note_is : taken.note ≡ note_of (handed_in s to store input).1
  pub failed_is : taken.failed ≡ fails_in s to (handed_in s to store input)

-- what comes of it for every system for which the nodes stand; for want of memory they stand for it
-- still
abbrev pub HandsIn : (System → Type 0) → (System → Type 0) → NodeId → StoreMode → Input
    → Result Taken AllocError → Type 0
HandsIn Before After to mode input result = (s : System) → Before s
    → MatchResult result (IsHandedIn s to mode input After) (λ refused. After s)

-- an event happened to a system
pub record Occurs {F : Type 0} (image_of : F → Images) (s : System) (given : happening.Event F)
    (Stand : System → Type 0) (taken : Taken) : Type 0 where
  pub happened : OpenSystemEvent
  pub is : IsEvent image_of s given happened
  pub stand : Stand (open_system_step s happened).0
  pub sent : (open_system_step s happened).0.world.sent ≡ s.world.sent ++ taken.messages
  pub note_is : taken.note ≡ note_of (open_system_step s happened).1
  pub failed_is : taken.failed ≡ open_store_fails s happened

------ worlds

-- a running world: its nodes, the messages that were sent, step by step, and whether one of them
-- arrived from outside
pub record Running (C P O F : Type 0) : Type 0 where
  pub nodes : Nodes C P O F
  pub steps : List (List Message)
  pub arrived : Bool

-- an event of the system itself
abbrev pub IsInside : OpenSystemEvent → Type 0
IsInside (Inside event) = Unit {0}
IsInside (Arrives request) = ⊥

-- an open schedule led to the system, for which the running world stands; if no request arrived
-- from outside, each of its events is one of the system itself
pub record IsRun {C P O F : Type 0} (Coordinates : NodeState → C → Type 0)
    (Serves : NodeState → P → Type 0) (Groups : NodeState → O → Type 0) (image_of : F → Images)
    (running : Running C P O F) (s : System) : Type 0 where
  pub count : ℕ
  pub events : List OpenSystemEvent
  pub is_schedule : IsOpenSystemSchedule events
  pub is_run : s ≡ run_open_system events (start_system count)
  pub inside : running.arrived ≡ false → All IsInside events
  pub nodes : StandForAll Coordinates Serves Groups image_of running.nodes s
  pub sent : joined running.steps ≡ s.world.sent

-- an event led from a system to another, and was answered so
pub record Steps {F : Type 0} (image_of : F → Images) (s : System) (given : happening.Event F)
    (StandsFor : System → Type 0) (answer : Happened) : Type 0 where
  pub happened : OpenSystemEvent
  pub is : IsEvent image_of s given happened
  pub stands : StandsFor (open_system_step s happened).0
  pub note_is : answer.note ≡ note_of (open_system_step s happened).1
  pub failed_is : answer.failed ≡ open_store_fails s happened

-- the same of the note alone
abbrev pub StepsTo : {F : Type 0} → (F → Images) → System → happening.Event F
    → (System → Type 0) → Note → Type 0
StepsTo image_of s given StandsFor note = (failed : Bool)
    × Steps image_of s given StandsFor (record { note = note; failed = failed })

-- events led from a system to another, one after the other
pub data Runs {F : Type 0} (image_of : F → Images) (StandsFor : System → Type 0)
    : System → List (happening.Event F) → Type 0 where
  NoneLeft : (s : System) → StandsFor s → Runs image_of StandsFor s []
  OneMore : (s : System) (given : happening.Event F) (more : List (happening.Event F))
      (happened : OpenSystemEvent) → IsEvent image_of s given happened
      → Runs image_of StandsFor (open_system_step s happened).0 more
      → Runs image_of StandsFor s (given ∷ more)

-- all of these events happened, or, where memory was wanted for one, those before it
abbrev pub RunsUp : {F : Type 0} → (F → Images) → System → List (happening.Event F)
    → (System → Type 0) → Result (Unit {0}) RunFault → Type 0
RunsUp image_of s given StandsFor (Ok done) = Runs image_of StandsFor s given
RunsUp image_of s given StandsFor (Err (fault.Memory at)) =
    (at < length given) × Runs image_of StandsFor s (take at given)

------ what an event sent

-- one step more, with the messages that the event sent, which led from a system to another; those
-- of the steps before stay as they are
pub record AddsStep (s after : System) (before later : List (List Message)) : Type 0 where
  pub messages : List Message
  pub steps_are : later ≡ before ++ messages ∷ []
  pub own : after.world.sent ≡ s.world.sent ++ messages
