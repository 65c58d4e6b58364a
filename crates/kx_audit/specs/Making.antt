-- How the nodes of traces were made, and the making of their clients in order.
use Rattle.std.specs.Prelude.{ℕ, List, [], ◌∷◌, map, Option, Some, None, nat_lt, if◌then◌else◌}
use Rattle.std.specs.List.{flat_map}
use Rattle.kx_machine.specs.Meaning.{NodeState, AtClient, AtCoordinator, AtPartition, AtProcessor}
use Rattle.kx_machine.specs.declared.machine.Making.{Making}
use Rattle.kx_machine.specs.declared.machine.Making.TheVariants as making
use Rattle.kx_message.specs.declared.message.NodeId.{NodeId}
use Rattle.kx_message.specs.declared.message.NodeId.TheVariants as node
use Rattle.kx_model.specs.Client.{Client, new_client}
use Rattle.kx_model.specs.CoordinatorNode.{new_coordinator}
use Rattle.kx_model.specs.PartitionNode.{empty_partition}
use Rattle.kx_model.specs.World.{Make}
use Rattle.kx_nodes.specs.Replay.{Traced}
use Rattle.kx_nodes.specs.declared.made.ProcessorMaking.{ProcessorMaking}
use Rattle.kx_system.specs.Processor.{Images, Processing, new_processing}
use Rattle.kx_system.specs.System.{Happens, MakeProcessor, SystemEvent}

------ how a node is made

-- what a processor has beside its client
pub record Processes : Type 0 where
  pub group : List ℕ
  pub inputs : ℕ
  pub image : Images

-- a client, which may be a processor
pub record ClientMaking : Type 0 where
  pub number : ℕ
  pub txn : Option (List ℕ)
  pub timeout : ℕ
  pub processes : Option Processes

pub data NodeMaking : Type 0 where
  OfCoordinator : NodeMaking
  OfPartition : (number : ℕ) → NodeMaking
  OfClient : (client : ClientMaking) → NodeMaking

-- the same of what running nodes are made of
abbrev pub making_of : Making → NodeMaking
making_of making.Coordinator = OfCoordinator
making_of (making.Partition number) = OfPartition number
making_of (making.Client number txn timeout) = OfClient (record {
  number = number;
  txn = txn;
  timeout = timeout;
  processes = None;
})

abbrev pub processor_making : {P : Type 0} → (P → Images) → ProcessorMaking P → NodeMaking
processor_making image_of m = OfClient (record {
  number = m.number;
  txn = m.txn;
  timeout = m.timeout;
  processes = Some (record {
    group = m.group;
    inputs = m.inputs;
    image = image_of m.process;
  });
})

------ the node that is made

abbrev pub client_with : Client → Option Processing → NodeState
client_with client None = AtClient client
client_with client (Some processing) =
    AtProcessor (record { client = client; processing = processing })

abbrev pub processing_by : ℕ → Option Processes → Option Processing
processing_by number None = None
processing_by number (Some p) = Some (new_processing number p.group p.inputs p.image)

abbrev pub client_by : ClientMaking → Client
client_by c = new_client c.number c.txn c.timeout

abbrev pub node_of : NodeMaking → NodeState
node_of OfCoordinator = AtCoordinator new_coordinator
node_of (OfPartition number) = AtPartition number empty_partition
node_of (OfClient c) = client_with (client_by c) (processing_by c.number c.processes)

-- its name
abbrev pub named : NodeMaking → NodeId
named OfCoordinator = node.Coordinator
named (OfPartition number) = node.Partition number
named (OfClient c) = node.Client c.number

------ the clients of traces

-- how a node was made, and its steps
abbrev pub Trail : Type 0
Trail = Traced NodeMaking

-- the same of a trace that running nodes keep
abbrev pub trail_of : {B : Type 0} → (B → NodeMaking) → Traced B → Trail
trail_of making t = record { made = making t.made; steps = t.steps }

abbrev pub client_in : NodeMaking → List ClientMaking
client_in OfCoordinator = []
client_in (OfPartition number) = []
client_in (OfClient c) = c ∷ []

abbrev pub clients_of : List Trail → List ClientMaking
clients_of trails = flat_map (λ t. client_in t.made) trails

-- one more among clients in the order of their numbers
abbrev pub placed : ClientMaking → List ClientMaking → List ClientMaking
placed c [] = c ∷ []
placed c (d ∷ ds) = if nat_lt c.number d.number then c ∷ d ∷ ds else d ∷ placed c ds

abbrev pub in_order : List ClientMaking → List ClientMaking
in_order [] = []
in_order (c ∷ cs) = placed c (in_order cs)

abbrev pub event_with : ClientMaking → Option Processes → SystemEvent
event_with c None = Happens (Make c.number c.txn c.timeout)
event_with c (Some p) = MakeProcessor c.number c.txn c.timeout p.group p.inputs p.image

-- the event in which a client is made
abbrev pub making_event : ClientMaking → SystemEvent
making_event c = event_with c c.processes

-- the clients are made, in the order of their numbers
abbrev pub makings : List Trail → List SystemEvent
makings trails = map making_event (in_order (clients_of trails))
