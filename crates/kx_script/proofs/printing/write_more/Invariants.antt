use Rattle.std.proofs.Common.{drop}
use Rattle.kx_script.specs.Printing.{more_partitions}
use Rattle.kx_text.proofs.Writes.{IsBegun}
use Rattle.kx_script.proofs.printing.write_more.Given as goal

abbrev pub invariant-loop-partition : goal.invariant-loop-partition
invariant-loop-partition g l =
    IsBegun (g.W.Write.contents l.fn.writer) (g.W.Write.contents l.writer)
    (more_partitions (drop l.partition-index l.partitions)) (more_partitions l.partitions)
