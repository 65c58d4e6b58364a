use Rattle.std.proofs.Common.{arith}
use Rattle.kx_page.specs.Page.{row_of}
use Rattle.kx_page.specs.declared.run.Step.{Step}
use Rattle.kx_page.proofs.Flat.{one_more}
use Rattle.kx_page.proofs.document.rows_in.Goals as goal

pub loop-number-preserved : goal.loop-number-preserved
loop-number-preserved c =
    one_more {X = Step} (λ step. row_of step.0 step.1) c.args.all.now c.args.part.first c.loop-number.number c.index-all-number.result
    c.args.out.now.items _ _ (omega arith) (omega arith) c.index-all-number.is c.loop-number.invariant
    c.in_ok-row_of.ensures
