use Rattle.std.proofs.Common.{◌≡◌, ◌<◌, ℕ, Some}
use Rattle.std.specs.Prelude.{slice_get}
use Rattle.kx_audit.specs.Joined.{WasHandedOut}
use Rattle.kx_nodes.specs.declared.trace.Step.{Step}
use Rattle.kx_audit.proofs.origins.takes_stranger.Given as goal

abbrev pub invariant-loop-step : goal.invariant-loop-step
invariant-loop-step g l = (k : ℕ) (step : Step) → k < l.step-index
    → slice_get l.step-items k ≡ Some step → WasHandedOut l.all step.input
