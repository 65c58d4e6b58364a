use Rattle.kx_server_audit.specs.Driving.{IsUnderWay}
use Rattle.kx_server_audit.specs.Reads.{Start}
use Rattle.kx_server_audit.proofs.auditing.ServerAudit.go_all.Given as goal

abbrev pub invariant-loop : goal.invariant-loop
invariant-loop g l = (start : Start)
    → IsUnderWay g.I.Read.remaining start l.fn.self l.fn.sources.items
    → IsUnderWay g.I.Read.remaining start l.self l.sources.items
