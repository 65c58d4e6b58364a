use Rattle.std.proofs.Common.{◌≡◌, false}
use Rattle.kx_server_audit.specs.Driving.{IsUnderWay}
use Rattle.kx_server_audit.specs.Reads.{Start}
use Rattle.kx_server_audit.proofs.Advancing.{AreStuckBelow}
use Rattle.kx_server_audit.proofs.auditing.ServerAudit.go_round.Given as goal

-- as long as no trace went on, those so far are stuck
abbrev pub invariant-loop-trace : goal.invariant-loop-trace
invariant-loop-trace g l = (start : Start)
    → IsUnderWay g.I.Read.remaining start l.fn.self l.fn.sources.items
    → IsUnderWay g.I.Read.remaining start l.self l.sources.items
    × (l.went_on ≡ false → AreStuckBelow l.trace l.self l.sources.items)
