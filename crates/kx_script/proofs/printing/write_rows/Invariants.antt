use Rattle.std.proofs.Common.{drop, map}
use Rattle.std.specs.Prelude.{flat_map}
use Rattle.kx_script.specs.Printing.{row_line}
use Rattle.kx_text.proofs.Writes.{IsBegun}
use Rattle.kx_txnlog.specs.Entry.{row_of}
use Rattle.kx_script.proofs.printing.write_rows.Given as goal

abbrev pub invariant-loop-row : goal.invariant-loop-row
invariant-loop-row g l =
    IsBegun (g.W.Write.contents l.fn.writer) (g.W.Write.contents l.writer)
    (flat_map row_line (map row_of (drop l.row-index l.rows)))
    (flat_map row_line (map row_of l.rows))
