use Rattle.std.proofs.Common.{All, arith, subst}
use Rattle.std.proofs.lemmas.List.{take_all}
use Rattle.kx_machine.proofs.Fitting.{all_taken}
use Rattle.kx_message.specs.Message.{IsOffset}
use Rattle.kx_machine.proofs.fits.offsets_fit.Goals as goal

pub loop-committed-preserved : goal.loop-committed-preserved
loop-committed-preserved c =
    all_taken IsOffset c.args.offsets.now c.loop-committed.committed-index c.committed-item.result
    c.loop-committed.invariant c.loop-committed-test.true c.committed-item.is
    c.committed_fits.ensures

pub returns : goal.returns
returns c =
    subst (All IsOffset) (take_all c.loop-committed.committed-index c.args.offsets.now
    (omega (arith, c.loop-committed-test.false))) c.loop-committed.invariant
