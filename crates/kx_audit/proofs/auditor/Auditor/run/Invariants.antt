use Rattle.std.proofs.Common.{◌≡◌}
use Rattle.std.specs.Prelude.{sum_by}
use Rattle.kx_audit.specs.Replayed.{left, traces_of}
use Rattle.kx_audit.proofs.auditor.Auditor.run.Given as goal

abbrev pub invariant-loop-auditor : goal.invariant-loop-auditor
invariant-loop-auditor g l =
    record {
      clients : l.auditor.clients ≡ l.initial.auditor.clients;
      traces : traces_of l.auditor.nodes ≡ traces_of l.initial.auditor.nodes;
    }

abbrev pub decreases-loop-auditor : goal.decreases-loop-auditor
decreases-loop-auditor g l = sum_by left l.auditor.nodes
