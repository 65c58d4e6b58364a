use Rattle.std.proofs.Common.{◌≡◌, map, take}
use Rattle.kx_trace_audit.specs.Readings.{begun}
use Rattle.kx_trace_audit.proofs.audit.readings.Given as goal

abbrev pub invariant-loop-one : goal.invariant-loop-one
invariant-loop-one l =
    record {
      traces : l.traces.items ≡ map begun (take l.one-index l.of);
    }
