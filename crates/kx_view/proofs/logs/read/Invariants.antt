use Rattle.std.proofs.Common.{length}
use Rattle.kx_view.proofs.logs.read.Given as goal

abbrev pub decreases-loop-batch : goal.decreases-loop-batch
decreases-loop-batch l = length l.rest
