use Rattle.std.proofs.lemmas.Result.{err_from_is_err_and}
use Rattle.kx_server_audit.proofs.Advancing.{ended, says_left}
use Rattle.kx_server_audit.proofs.auditing.ServerAudit.run.Goals as goal

pub returns-in_err-go_all : goal.returns-in_err-go_all
returns-in_err-go_all g c = λ start before.
    let out = err_from_is_err_and c.from_residual.result c.from_residual.ensures.1 in
    rw (out.1, out.2) (c.in_err-go_all.ensures start before)

pub returns-in-Some : goal.returns-in-Some
returns-in-Some g c = λ start before.
    let w = c.in_ok-go_all.ensures start before in
    says_left g.I.Read.remaining start c.go_all.new.self c.go_all.new.sources.items
    c.in-Some.trace c.items.result c.refused_at.result w.1 c.items.ensures c.in-Some.ensures
    c.refused_at.ensures w.0

pub returns-in-None : goal.returns-in-None
returns-in-None g c = λ start before.
    let w = c.in_ok-go_all.ensures start before in
    ended g.I.Read.remaining start c.go_all.new.self
    c.as_slice.result.now c.go_all.new.sources.items c.all_ended.result
    c.as_slice.ensures.value c.all_ended.ensures c.in-None.ensures w.0
