use Rattle.std.specs.Prelude.{flat_map}
use Rattle.kx_text.specs.Pages.{batch_lines}
use Rattle.kx_text.proofs.Writes.{IsBegun}
use Rattle.kx_text.proofs.pages.write_all.Given as goal

abbrev pub invariant-loop-batch : goal.invariant-loop-batch
invariant-loop-batch g l =
    IsBegun (g.W.Write.contents l.fn.writer) (g.W.Write.contents l.writer)
    (flat_map (λ entry. batch_lines l.from entry.batch) l.batch-iterator)
    (flat_map (λ entry. batch_lines l.from entry.batch) l.page.batches)
