use Rattle.std.proofs.Common.{◌≡◌, ◌<◌, ℕ, Some, length}
use Rattle.std.specs.Prelude.{slice_get}
use Rattle.kx_audit.specs.Replayed.{Progress}
use Rattle.kx_audit.proofs.auditor.Auditor.is_done.Given as goal

abbrev pub invariant-loop-node : goal.invariant-loop-node
invariant-loop-node g l = (k : ℕ) → k < l.node-index → (p : Progress _ _)
    → slice_get l.node-items k ≡ Some p → p.done ≡ length p.trace.steps
