use Rattle.std.proofs.Common.{length}
use Rattle.kx_watch.proofs.script.cut.Given as goal

abbrev pub decreases-loop-after : goal.decreases-loop-after
decreases-loop-after l = length l.rest
