use Rattle.std.proofs.lemmas.Result.{err_from_is_err_and}
use Rattle.kx_server_audit.proofs.auditing.ServerAudit.go_all.Goals as goal

pub loop-preserved : goal.loop-preserved
loop-preserved g c = λ start before.
    (c.in_ok-go_round.ensures start (c.loop.invariant start before)).0

pub returns-then-not-branch : goal.returns-then-not-branch
returns-then-not-branch g c = λ start before.
    let w = c.in_ok-go_round.ensures start (c.loop.invariant start before) in
    (w.0, w.1 c.if-not-branch.true)

pub returns-in_err-go_round : goal.returns-in_err-go_round
returns-in_err-go_round g c = λ start before.
    let out = err_from_is_err_and c.from_residual.result c.from_residual.ensures.1 in
    rw (out.1, out.2) (c.in_err-go_round.ensures start (c.loop.invariant start before))
