use Rattle.std.proofs.Common.{◌+ℤ◌, ℕ, ℤ, List}
use Rattle.std.specs.Prelude.{flat_map}
use Rattle.kx_batch.specs.Record.{Record}
use Rattle.kx_text.specs.Pages.{record_text}
use Rattle.kx_text.proofs.Writes.{IsBegun}
use Rattle.kx_text.proofs.pages.write_batch.Given as goal

abbrev pub line_of : ℤ → ℤ → Record → List ℕ
line_of from base r = record_text from (base +ℤ r.offset_delta) r

abbrev pub invariant-loop-record : goal.invariant-loop-record
invariant-loop-record g l =
    IsBegun (g.W.Write.contents l.fn.writer) (g.W.Write.contents l.writer)
    (flat_map (line_of l.from l.batch.batch.base_offset) l.record-iterator)
    (flat_map (line_of l.from l.batch.batch.base_offset) l.batch.batch.records)
