use Rattle.std.proofs.Common.{ℕ, ◌≡◌, ◌<◌, Some}
use Rattle.std.specs.Prelude.{slice_get}
use Rattle.kx_follow.specs.Following.{Followed, name_of}
use Rattle.kx_follow.proofs.follower.has_name.Given as goal

abbrev pub invariant-loop-node : goal.invariant-loop-node
invariant-loop-node g l =
    record {
      new : (k : ℕ) (n : Followed _ _) → k < l.node-index → slice_get l.nodes k ≡ Some n
          → name_of g.B.Tells.making n ≡ l.name → ⊥;
    }
