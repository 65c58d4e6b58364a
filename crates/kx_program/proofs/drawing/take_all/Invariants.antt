use Rattle.std.proofs.Common.{take}
use Rattle.kx_program.specs.Drawing.{rows_of}
use Rattle.kx_program.proofs.drawing.take_all.Given as goal
use Rattle.kx_watch.specs.Steps.{AddsSteps}

abbrev pub invariant-loop-step : goal.invariant-loop-step
invariant-loop-step l = AddsSteps (rows_of (take l.step-index l.steps)) l.fn.watched l.watched
