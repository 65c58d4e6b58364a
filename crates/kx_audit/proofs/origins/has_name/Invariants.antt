use Rattle.std.proofs.Common.{◌≡◌, ◌<◌, ℕ, Some}
use Rattle.std.specs.Prelude.{slice_get}
use Rattle.kx_audit.specs.Making.{named}
use Rattle.kx_audit.specs.Replayed.{Progress}
use Rattle.kx_audit.proofs.origins.has_name.Given as goal

abbrev pub invariant-loop-node : goal.invariant-loop-node
invariant-loop-node g l = (k : ℕ) (p : Progress _ _) → k < l.node-index
    → slice_get l.nodes k ≡ Some p → named (g.B.Tells.making p.trace.made) ≡ l.name → ⊥
