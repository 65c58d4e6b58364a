use Rattle.std.proofs.Common.{◌≡◌, ◌++◌}
use Rattle.std.specs.List.{flat_map}
use Rattle.kx_page.specs.Drawing.{between, numbered}
use Rattle.kx_page.specs.Drawing.{lane_line}
use Rattle.kx_page.proofs.drawing.lane_lines.Given as goal

abbrev pub invariant-loop-lane : goal.invariant-loop-lane
invariant-loop-lane l =
    l.out.items ≡ l.fn.out.items
    ++ flat_map (λ lane. lane_line l.fn.part.first l.fn.part.end lane.0) (between 0 l.lane (numbered l.fn.all))
