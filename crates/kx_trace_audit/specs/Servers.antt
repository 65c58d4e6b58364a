-- The nodes of a server, as their traces name them.
use Rattle.kx_audit.specs.Making.{NodeMaking, OfCoordinator, OfPartition}
use Rattle.kx_message.specs.declared.message.NodeId.{NodeId}
use Rattle.kx_message.specs.declared.message.NodeId.TheVariants as node
use Rattle.kx_trace.specs.declared.node.TracedNode.{TracedNode}
use Rattle.kx_trace.specs.declared.node.TracedNode.TheVariants as traced

-- made with an empty log
abbrev pub making_of : TracedNode → NodeMaking
making_of traced.Coordinator = OfCoordinator
making_of (traced.Partition number) = OfPartition number

abbrev pub name_of : TracedNode → NodeId
name_of traced.Coordinator = node.Coordinator
name_of (traced.Partition number) = node.Partition number
