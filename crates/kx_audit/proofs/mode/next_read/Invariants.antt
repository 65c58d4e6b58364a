use Rattle.std.proofs.Common.{◌≡◌, drop}
use Rattle.kx_nodes.specs.Again.{next_read}
use Rattle.kx_audit.proofs.mode.next_read.Given as goal

abbrev pub invariant-loop-step : goal.invariant-loop-step
invariant-loop-step l = next_read (drop l.step-index l.behind) ≡ next_read l.behind
