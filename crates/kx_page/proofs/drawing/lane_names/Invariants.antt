use Rattle.std.proofs.Common.{◌≡◌, ◌++◌}
use Rattle.std.specs.List.{flat_map}
use Rattle.kx_page.specs.Drawing.{between, numbered}
use Rattle.kx_page.specs.Drawing.{lane_name}
use Rattle.kx_page.proofs.drawing.lane_names.Given as goal

abbrev pub invariant-loop-number : goal.invariant-loop-number
invariant-loop-number l =
    l.out.items ≡ l.fn.out.items
    ++ flat_map (λ lane. lane_name lane.0 lane.1) (between 0 l.number (numbered l.fn.lanes))
