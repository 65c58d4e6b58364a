use Rattle.kx_membership.proofs.Counting.{best_more}
use Rattle.kx_membership.proofs.votes.best_of.Goals as goal

pub loop-place-preserved : goal.loop-place-preserved
loop-place-preserved c =
    best_more c.args.name.now c.args.all.now c.loop-place.place _ c.loop-place.best.now
    c.better-best.result.now c.loop-place-test.true c.loop-place.invariant c.better-best.ensures
