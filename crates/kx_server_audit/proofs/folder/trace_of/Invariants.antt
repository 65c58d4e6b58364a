use Rattle.std.proofs.Common.{◌≡◌, ◌<◌, ℕ, Some}
use Rattle.std.specs.Prelude.{slice_get}
use Rattle.kx_trace_audit.specs.declared.servers.TraceOf.{TraceOf}
use Rattle.kx_server_audit.proofs.folder.trace_of.Given as goal

abbrev pub invariant-loop-number : goal.invariant-loop-number
invariant-loop-number l =
    record {
      none : (k : ℕ) (t : TraceOf) → k < l.number → slice_get l.of k ≡ Some t → t.node ≡ l.node
          → ⊥;
    }
