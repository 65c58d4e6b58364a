use Rattle.std.proofs.Common.{◌≤◌, length}
use Rattle.kx_view.specs.Recording.{TellSame}
use Rattle.kx_view.proofs.recorder.settle_steps.Given as goal

abbrev pub invariant-loop-number : goal.invariant-loop-number
invariant-loop-number l =
    TellSame l.fn.steps.items l.steps.items × (l.number-end ≤ length l.steps.items)
