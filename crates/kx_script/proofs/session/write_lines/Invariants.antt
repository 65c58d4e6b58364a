use Rattle.std.proofs.Common.{drop}
use Rattle.kx_core.specs.Local.{IsLocal}
use Rattle.kx_processor.specs.Prefixed.{images_of}
use Rattle.kx_script.specs.Printing.{message_lines}
use Rattle.kx_system.specs.System.{System}
use Rattle.kx_text.proofs.Writes.{IsBegun}
use Rattle.kx_script.proofs.session.write_lines.Given as goal

abbrev pub invariant-loop-number : goal.invariant-loop-number
invariant-loop-number g l = (s : System) → IsLocal images_of l.world s
    → IsBegun (g.W.Write.contents l.fn.writer) (g.W.Write.contents l.writer)
    (message_lines l.number l.from (drop l.number s.world.sent))
    (message_lines l.first l.from (drop l.first s.world.sent))
