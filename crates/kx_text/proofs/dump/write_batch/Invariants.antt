use Rattle.std.specs.Prelude.{flat_map}
use Rattle.kx_text.specs.Dump.{batch_text_of, record_line}
use Rattle.kx_text.proofs.Writes.{IsBegun}
use Rattle.kx_text.proofs.dump.write_batch.Given as goal

abbrev pub invariant-loop-record : goal.invariant-loop-record
invariant-loop-record g l =
    IsBegun (g.W.Write.contents l.fn.writer) (g.W.Write.contents l.writer)
    (flat_map (record_line l.batch.batch.base_offset) l.record-iterator)
    (batch_text_of l.batch.batch)
