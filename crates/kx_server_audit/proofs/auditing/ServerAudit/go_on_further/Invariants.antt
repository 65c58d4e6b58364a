use Rattle.kx_server_audit.specs.Driving.{GoesOn}
use Rattle.kx_server_audit.proofs.auditing.ServerAudit.go_on_further.Given as goal

abbrev pub invariant-loop : goal.invariant-loop
invariant-loop g l = GoesOn g.I.Read.remaining l.trace l.fn.self l.self l.fn.source l.source
