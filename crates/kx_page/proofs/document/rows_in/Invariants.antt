use Rattle.std.proofs.Common.{◌≡◌, ◌++◌}
use Rattle.std.specs.List.{flat_map}
use Rattle.kx_page.specs.Drawing.{between, numbered}
use Rattle.kx_page.specs.Page.{row_of}
use Rattle.kx_page.proofs.document.rows_in.Given as goal

abbrev pub invariant-loop-number : goal.invariant-loop-number
invariant-loop-number l =
    l.out.items ≡ l.fn.out.items
    ++ flat_map (λ step. row_of step.0 step.1) (between l.fn.part.first l.number (numbered l.fn.all))
