use Rattle.std.proofs.Common.{◌≡◌, ◌<◌, ℕ, Some}
use Rattle.std.specs.Prelude.{slice_get}
use Rattle.kx_trace_audit.specs.Auditing.{IsRead}
use Rattle.kx_trace_audit.specs.Readings.{Reading}
use Rattle.kx_trace_audit.proofs.audit.TraceAudit.left_over.Given as goal

abbrev pub invariant-loop-trace : goal.invariant-loop-trace
invariant-loop-trace g l =
    record {
      read : (k : ℕ) (r : Reading) → k < l.trace → slice_get l.self.traces k ≡ Some r → IsRead r;
    }
