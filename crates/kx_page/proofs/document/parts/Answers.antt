use Rattle.std.proofs.Common.{arith}
use Rattle.kx_page.specs.Page.{part_at}
use Rattle.kx_page.specs.declared.run.Step.{Step}
use Rattle.kx_page.proofs.Flat.{all_done, one_number}
use Rattle.kx_page.proofs.document.parts.Goals as goal

pub loop-number-preserved : goal.loop-number-preserved
loop-number-preserved c =
    one_number {X = Step} (part_at c.args.run.now) c.args.run.now.steps.items c.loop-number.number c.args.out.now.items _ _ (omega arith)
    c.loop-number.invariant c.in_ok-part_at.ensures

pub returns : goal.returns
returns c =
    all_done {X = Step} (λ step. part_at c.args.run.now step.0) c.args.run.now.steps.items c.loop-number.number c.args.out.now.items _ (omega arith)
    c.loop-number.invariant
