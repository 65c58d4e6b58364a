use Rattle.std.proofs.Common.{List, take}
use Rattle.kx_machine.specs.Meaning.{NodeState}
use Rattle.kx_trace_audit.specs.Beginnings.{AreNodesOf}
use Rattle.kx_trace_audit.proofs.audit.nodes_of.Given as goal

abbrev pub invariant-loop-one : goal.invariant-loop-one
invariant-loop-one g l =
    record {
      nodes : (starts : List NodeState) × AreNodesOf g.B.Tells.making g.B.Machine.Machine.stands
          (take l.one-index l.of) starts l.nodes.items;
    }
