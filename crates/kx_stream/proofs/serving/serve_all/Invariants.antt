use Rattle.std.specs.Prelude.{take}
use Rattle.kx_stream.proofs.Rows.{Far}
use Rattle.kx_stream.proofs.serving.serve_all.Given as goal

abbrev pub invariant-loop-at : goal.invariant-loop-at
invariant-loop-at g l = Far g.M.Machine.stands g.M.Machine.allows (take l.at l.messages)
    l.initial.machine l.machine (g.W.Write.contents l.initial.writer) (g.W.Write.contents l.writer)
