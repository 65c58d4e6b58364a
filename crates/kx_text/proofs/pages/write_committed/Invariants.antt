use Rattle.kx_reader.specs.Pairs.{pairs}
use Rattle.kx_text.proofs.Pairs.{pair_lines}
use Rattle.kx_text.proofs.Writes.{IsBegun}
use Rattle.kx_text.proofs.pages.write_committed.Given as goal

abbrev pub invariant-loop-offset : goal.invariant-loop-offset
invariant-loop-offset g l =
    IsBegun (g.W.Write.contents l.fn.writer) (g.W.Write.contents l.writer)
    (pair_lines (pairs l.offset-iterator)) (pair_lines (pairs l.fn.records))
