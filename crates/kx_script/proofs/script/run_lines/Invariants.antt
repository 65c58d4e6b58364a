use Rattle.kx_script.specs.Running.{StandsIn}
use Rattle.kx_script.proofs.Underway.{Underway}
use Rattle.kx_script.proofs.script.run_lines.Given as goal

abbrev pub invariant-loop-number : goal.invariant-loop-number
invariant-loop-number g l =
    Underway (StandsIn l.running) (g.R.Read.remaining l.fn.reader.reader)
    (g.R.Read.remaining l.reader.reader) l.number (g.W.Write.contents l.fn.writer)
    (g.W.Write.contents l.writer)
