use Rattle.std.proofs.Common.{arith}
use Rattle.kx_page.specs.Drawing.{lane_line}
use Rattle.kx_page.specs.declared.run.Lane.{Lane}
use Rattle.kx_page.proofs.Flat.{all_done, one_number}
use Rattle.kx_page.proofs.drawing.lane_lines.Goals as goal

pub loop-lane-preserved : goal.loop-lane-preserved
loop-lane-preserved c =
    one_number {X = Lane} (lane_line c.args.part.first c.args.part.end) c.args.all.now c.loop-lane.lane c.args.out.now.items _ _ (omega arith)
    c.loop-lane.invariant c.in_ok-lane_line.ensures

pub returns : goal.returns
returns c =
    all_done {X = Lane} (λ lane. lane_line c.args.part.first c.args.part.end lane.0) c.args.all.now c.loop-lane.lane c.args.out.now.items _ (omega arith)
    c.loop-lane.invariant
