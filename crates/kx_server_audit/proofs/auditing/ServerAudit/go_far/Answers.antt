use Rattle.std.proofs.lemmas.Result.{err_from_is_err_and}
use Rattle.kx_server_audit.proofs.Advancing.{ends_later, goes_on, has_gone}
use Rattle.kx_server_audit.proofs.auditing.ServerAudit.go_far.Goals as goal

pub returns : goal.returns
returns g c = goes_on g.I.Read.remaining c.args.trace c.args.self.now c.go_on.new.self
    c.go_on_further.new.self c.args.source.now c.go_on.new.source c.go_on_further.new.source
    (has_gone g.I.Read.remaining c.args.trace c.args.self.now c.go_on.new.self c.args.source.now
    c.go_on.new.source _ c.in_ok-go_on.ensures) c.in_ok-go_on_further.ensures

pub returns-in_err-go_on_further : goal.returns-in_err-go_on_further
returns-in_err-go_on_further g c =
    let out = err_from_is_err_and c.from_residual-in_err-go_on_further.result
    c.from_residual-in_err-go_on_further.ensures.1 in
    rw (out.1, out.2) (ends_later g.I.Read.remaining c.args.trace c.args.self.now c.go_on.new.self
    c.go_on_further.new.self c.args.source.now c.go_on.new.source _
    (has_gone g.I.Read.remaining c.args.trace c.args.self.now c.go_on.new.self c.args.source.now
    c.go_on.new.source _ c.in_ok-go_on.ensures) c.in_err-go_on_further.ensures)
