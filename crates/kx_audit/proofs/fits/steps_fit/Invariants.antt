use Rattle.std.proofs.Common.{All, take}
use Rattle.kx_audit.specs.Schedule.{IsStep}
use Rattle.kx_audit.proofs.fits.steps_fit.Given as goal

-- those so far are in their ranges
abbrev pub invariant-loop-step : goal.invariant-loop-step
invariant-loop-step l = All IsStep (take l.step-index l.steps)
