use Rattle.std.proofs.Common.{◌≡◌, ◌++◌}
use Rattle.std.specs.List.{flat_map}
use Rattle.kx_page.specs.Drawing.{between, numbered}
use Rattle.kx_page.specs.Page.{batch_in}
use Rattle.kx_page.proofs.document.batches.Given as goal

abbrev pub invariant-loop-number : goal.invariant-loop-number
invariant-loop-number l =
    l.out.items ≡ l.fn.out.items
    ++ flat_map (λ batch. batch_in batch.0 batch.1) (between 0 l.number (numbered l.fn.all))
