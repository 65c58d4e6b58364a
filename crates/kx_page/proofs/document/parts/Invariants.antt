use Rattle.std.proofs.Common.{◌≡◌, ◌++◌}
use Rattle.std.specs.List.{flat_map}
use Rattle.kx_page.specs.Drawing.{between, numbered}
use Rattle.kx_page.specs.Page.{part_at}
use Rattle.kx_page.proofs.document.parts.Given as goal

abbrev pub invariant-loop-number : goal.invariant-loop-number
invariant-loop-number l =
    l.out.items ≡ l.fn.out.items
    ++ flat_map (λ step. part_at l.fn.run step.0) (between 0 l.number (numbered l.fn.run.steps.items))
