use Rattle.std.proofs.lemmas.Result.{err_from_is_err_and}
use Rattle.kx_server_audit.proofs.Advancing.{ends_later, goes_nowhere, goes_on, has_gone}
use Rattle.kx_server_audit.proofs.auditing.ServerAudit.go_on_further.Goals as goal

pub loop-init : goal.loop-init
loop-init g c = goes_nowhere g.I.Read.remaining c.args.trace c.args.self.now c.args.source.now

pub returns-then-not-branch : goal.returns-then-not-branch
returns-then-not-branch g c = goes_on g.I.Read.remaining c.args.trace c.args.self.now
    c.loop.self c.go_on.new.self c.args.source.now c.loop.source c.go_on.new.source
    c.loop.invariant (has_gone g.I.Read.remaining c.args.trace c.loop.self c.go_on.new.self
    c.loop.source c.go_on.new.source _ c.in_ok-go_on.ensures)

pub loop-preserved : goal.loop-preserved
loop-preserved g c = goes_on g.I.Read.remaining c.args.trace c.args.self.now
    c.loop.self c.go_on.new.self c.args.source.now c.loop.source c.go_on.new.source
    c.loop.invariant (has_gone g.I.Read.remaining c.args.trace c.loop.self c.go_on.new.self
    c.loop.source c.go_on.new.source _ c.in_ok-go_on.ensures)

pub returns-in_err-go_on : goal.returns-in_err-go_on
returns-in_err-go_on g c =
    let out = err_from_is_err_and c.from_residual.result c.from_residual.ensures.1 in
    rw (out.1, out.2) (ends_later g.I.Read.remaining c.args.trace c.args.self.now c.loop.self
    c.go_on.new.self c.args.source.now c.loop.source _ c.loop.invariant c.in_err-go_on.ensures)
