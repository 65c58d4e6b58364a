use Rattle.std.proofs.Common.{arith}
use Rattle.kx_page.specs.Drawing.{lane_name}
use Rattle.kx_page.specs.declared.run.Lane.{Lane}
use Rattle.kx_page.proofs.Flat.{all_done, one_more}
use Rattle.kx_page.proofs.drawing.lane_names.Goals as goal

pub loop-number-preserved : goal.loop-number-preserved
loop-number-preserved c =
    one_more {X = Lane} (λ lane. lane_name lane.0 lane.1) c.args.lanes.now 0 c.loop-number.number c.index-lanes-number.result
    c.args.out.now.items _ _ (omega arith) (omega arith) c.index-lanes-number.is c.loop-number.invariant
    c.in_ok-lane_name.ensures

pub returns : goal.returns
returns c =
    all_done {X = Lane} (λ lane. lane_name lane.0 lane.1) c.args.lanes.now c.loop-number.number c.args.out.now.items _ (omega arith)
    c.loop-number.invariant
