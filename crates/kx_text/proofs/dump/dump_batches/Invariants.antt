use Rattle.std.proofs.Common.{length}
use Rattle.kx_text.proofs.Dumping.{Underway}
use Rattle.kx_text.proofs.dump.dump_batches.Given as goal

abbrev pub invariant-loop-rest : goal.invariant-loop-rest
invariant-loop-rest g l =
    Underway l.bytes l.rest (g.W.Write.contents l.fn.writer) (g.W.Write.contents l.writer)

abbrev pub decreases-loop-rest : goal.decreases-loop-rest
decreases-loop-rest g l = length l.rest
