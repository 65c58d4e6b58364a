use Rattle.std.proofs.Common.{◌≡◌, ◌<◌, ℕ}
use Rattle.std.specs.Prelude.{slice_index_or}
use Rattle.kx_audit.proofs.sent.Sent.has_long.Given as goal

abbrev pub invariant-loop-sent : goal.invariant-loop-sent
invariant-loop-sent l = (k : ℕ) → k < l.sent-index
    → slice_index_or l.sent-items k l.message ≡ l.message → ⊥
