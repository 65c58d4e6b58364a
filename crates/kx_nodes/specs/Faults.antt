-- The numbers of faults.
use Rattle.std.specs.Prelude.{ℕ}
use Rattle.kx_nodes.specs.declared.fault.HandFault.{HandFault}
use Rattle.kx_nodes.specs.declared.fault.HandFault.TheVariants as hand
use Rattle.kx_nodes.specs.declared.fault.NodeFault.{NodeFault}
use Rattle.kx_nodes.specs.declared.fault.NodeFault.TheVariants as fault

abbrev pub node_number : NodeFault → ℕ
node_number fault.Memory = 1
node_number fault.TraceFull = 2

abbrev pub hand_number : HandFault → ℕ
hand_number hand.Memory = 1
hand_number hand.UsedUp = 2
