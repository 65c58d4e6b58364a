use Rattle.std.specs.Prelude.{◌+◌, ◌-◌, length}
use Rattle.kx_text.proofs.Writes.{IsPart}
use Rattle.kx_text.proofs.writing.write_whole.Given as goal

abbrev pub invariant-loop-written : goal.invariant-loop-written
invariant-loop-written g l = IsPart l.bytes l.written (g.W.Write.contents l.initial.writer)
    (g.W.Write.contents l.writer)

abbrev pub decreases-loop-written : goal.decreases-loop-written
decreases-loop-written g l = length l.bytes - l.written + l.tries
