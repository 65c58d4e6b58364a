-- The nodes of a system, by their names.
use Rattle.std.specs.Prelude.{ℕ, Bool, true, false, ◌==◌, Option, Some, None}
use Rattle.kx_audit.specs.Making.{client_with}
use Rattle.kx_machine.specs.Meaning.{NodeState, AtCoordinator, AtPartition}
use Rattle.kx_message.specs.declared.message.NodeId.{NodeId}
use Rattle.kx_message.specs.declared.message.NodeId.TheVariants as node
use Rattle.kx_model.specs.Client.{Client}
use Rattle.kx_model.specs.PartitionNode.{Partition}
use Rattle.kx_model.specs.World.{client_at, partition_at}
use Rattle.kx_system.specs.Processor.{Processing}
use Rattle.kx_system.specs.System.{System, processing_at}

abbrev pub same_node : NodeId → NodeId → Bool
same_node node.Coordinator node.Coordinator = true
same_node (node.Partition number) (node.Partition other) = number == other
same_node (node.Client number) (node.Client other) = number == other
same_node name other = false

abbrev pub partition_with : ℕ → Option Partition → Option NodeState
partition_with number None = None
partition_with number (Some p) = Some (AtPartition number p)

abbrev pub node_with : Option Client → Option Processing → Option NodeState
node_with None processing = None
node_with (Some client) processing = Some (client_with client processing)

-- the node of this name, if there is one
abbrev pub node_in : System → NodeId → Option NodeState
node_in s node.Coordinator = Some (AtCoordinator s.world.coordinator)
node_in s (node.Partition number) = partition_with number (partition_at s.world number)
node_in s (node.Client number) =
    node_with (client_at s.world number) (processing_at s number)
