use Rattle.std.proofs.Common.{length}
use Rattle.kx_trace_audit.proofs.Ahead.{HasPassed}
use Rattle.kx_trace_audit.proofs.lookahead.entry_stood.Given as goal

abbrev pub invariant-loop-looked : goal.invariant-loop-looked
invariant-loop-looked l = record { passed : HasPassed l.log_len l.bytes l.restarts l.rest }

abbrev pub decreases-loop-looked : goal.decreases-loop-looked
decreases-loop-looked l = length l.rest
