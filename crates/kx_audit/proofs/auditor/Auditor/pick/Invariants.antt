use Rattle.std.proofs.Common.{◌≡◌, ◌<◌, ℕ, Some}
use Rattle.std.specs.Prelude.{slice_get}
use Rattle.kx_audit.specs.Merged.{MayGo}
use Rattle.kx_audit.specs.Replayed.{Progress}
use Rattle.kx_audit.proofs.auditor.Auditor.pick.Given as goal

abbrev pub invariant-loop-k : goal.invariant-loop-k
invariant-loop-k g l = (k : ℕ) → k < l.k → (p : Progress _ _)
    → slice_get l.self-inside.nodes.items k ≡ Some p → MayGo l.self-inside.sent p → ⊥
