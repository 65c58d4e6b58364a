use Rattle.std.proofs.Common.{◌≡◌, None, Some, subst}
use Rattle.std.specs.Prelude.{MatchOption, slice_get}
use Rattle.kx_follow.specs.Following.{Followed}
use Rattle.kx_trace_audit.specs.Auditing.{Auditing}
use Rattle.kx_trace_audit.proofs.audit.TraceAudit.machine.Goals as goal

pub returns : goal.returns
returns g c =
    subst (λ (a : Auditing _ _). MatchOption c.machine.result
    (slice_get a.following.nodes c.args.trace ≡ None)
    (λ m. (n : Followed _ _) × (slice_get a.following.nodes c.args.trace ≡ Some n)
    × (m.now ≡ n.machine))) c.self.view_is c.machine.ensures
