use Rattle.std.proofs.Common.{◌≡◌, ◌<◌, ◌++◌, ℕ, Some}
use Rattle.std.specs.Prelude.{slice_get}
use Rattle.kx_audit.specs.Origins.{sent_by}
use Rattle.kx_audit.specs.Refused.{TakesStranger}
use Rattle.kx_audit.specs.Replayed.{Progress}
use Rattle.kx_audit.proofs.origins.have_stranger.Given as goal

abbrev pub invariant-loop-node : goal.invariant-loop-node
invariant-loop-node g l = (k : ℕ) (p : Progress _ _) → k < l.node-index
    → slice_get l.nodes k ≡ Some p
    → TakesStranger (l.fn.arrived ++ sent_by l.nodes) p.trace.steps → ⊥
