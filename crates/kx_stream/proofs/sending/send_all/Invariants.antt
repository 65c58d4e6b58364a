use Rattle.std.specs.Prelude.{take}
use Rattle.std.specs.Io.KnownBytes.{Appends}
use Rattle.kx_stream.specs.Sending.{frames}
use Rattle.kx_stream.proofs.sending.send_all.Given as goal

abbrev pub invariant-loop-at : goal.invariant-loop-at
invariant-loop-at g l = Appends (g.W.Write.contents l.initial.writer) (g.W.Write.contents l.writer)
    (frames (take l.at l.messages))
