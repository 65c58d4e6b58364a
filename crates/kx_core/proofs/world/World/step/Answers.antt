use Rattle.std.proofs.lemmas.Result.{err_from_is_err_and}
use Rattle.kx_core.proofs.world.World.step.Goals as goal

pub returns-clause-step : goal.returns-clause-step
returns-clause-step g c = λ s h.
    (c.in_ok-happened.happened.failed, c.in_ok-happened.ensures.step s h)

pub returns-in_err-happened-clause-messages : goal.returns-in_err-happened-clause-messages
returns-in_err-happened-clause-messages g c = λ s h.
    let p = err_from_is_err_and c.from_residual.result c.from_residual.ensures.1 in
    rw p.1 (c.in_err-happened.ensures.messages s h)
