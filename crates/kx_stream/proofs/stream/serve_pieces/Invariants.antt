use Rattle.kx_stream.proofs.Streams.{Along}
use Rattle.kx_stream.proofs.stream.serve_pieces.Given as goal

abbrev pub invariant-loop-reads : goal.invariant-loop-reads
invariant-loop-reads g l =
    Along g.M.Machine.stands g.M.Machine.allows l.reads l.initial.machine l.machine
    (g.R.Read.remaining l.initial.reader) (g.R.Read.remaining l.reader)
    (g.W.Write.contents l.initial.writer) (g.W.Write.contents l.writer) l.frames
