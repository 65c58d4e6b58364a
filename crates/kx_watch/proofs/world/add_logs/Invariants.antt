use Rattle.std.proofs.Common.{◌≡◌}
use Rattle.kx_watch.proofs.world.add_logs.Given as goal

abbrev pub invariant-loop-number : goal.invariant-loop-number
invariant-loop-number l = l.recorder ≡ l.fn.recorder
