use Rattle.std.proofs.Common.{All, arith, subst}
use Rattle.std.proofs.lemmas.List.{take_all}
use Rattle.kx_machine.proofs.Fitting.{all_taken}
use Rattle.kx_audit.specs.Schedule.{IsStep}
use Rattle.kx_audit.proofs.fits.steps_fit.Goals as goal

pub loop-step-preserved : goal.loop-step-preserved
loop-step-preserved c =
    all_taken IsStep c.args.steps.now c.loop-step.step-index c.step-item.result
    c.loop-step.invariant c.loop-step-test.true c.step-item.is c.input_fits.ensures

pub returns : goal.returns
returns c =
    subst (All IsStep) (take_all c.loop-step.step-index c.args.steps.now
    (omega (arith, c.loop-step-test.false))) c.loop-step.invariant
