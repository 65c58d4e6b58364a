use Rattle.std.proofs.Common.{◌≡◌, ◌++◌, take}
use Rattle.kx_page.specs.Drawing.{arrows_in}
use Rattle.kx_page.proofs.drawing.arrows_in.Given as goal

abbrev pub invariant-loop-arrow : goal.invariant-loop-arrow
invariant-loop-arrow l =
    l.out.items ≡ l.fn.out.items
    ++ arrows_in l.fn.part.first l.fn.part.end (take l.arrow-index l.fn.all)
