use Rattle.std.proofs.Common.{◌≡◌, ◌∷◌, map}
use Rattle.std.specs.List.{range_with_len}
use Rattle.kx_trace.specs.declared.node.TracedNode.TheVariants.{Coordinator, Partition}
use Rattle.kx_server_audit.proofs.traces.server_nodes.Given as goal

abbrev pub invariant-loop-number : goal.invariant-loop-number
invariant-loop-number l =
    l.nodes.items ≡ Coordinator ∷ map Partition (range_with_len 0 l.number)
