-- How many steps traces have.
use Rattle.std.proofs.Common.{◌≡◌, ◌≤◌, ◌+◌, ℕ, List, [], ◌∷◌, length, drop, Some, sym, ap}
use Rattle.std.proofs.Common.{◌∙◌, refl}
use Rattle.std.specs.Prelude.{slice_get}
use Rattle.std.proofs.lemmas.List.{drop_all}
use Rattle.std.proofs.lemmas.List.Sums.{sum_by-cons}
use Rattle.kx_audit.specs.Making.{NodeMaking, Trail, trail_of}
use Rattle.kx_audit.specs.Replayed.{Progress, steps_of, traces_of, trails_of}
use Rattle.kx_nodes.specs.Replay.{Traced}
use Rattle.kx_audit.proofs.Rerunning.{drop_next}

module _ {B : Type 0} (making : B → NodeMaking) where
  pub trails_count : (traces : List (Traced B))
      → steps_of (trails_of making traces) ≡ steps_of traces
  trails_count [] = refl
  trails_count (t ∷ traces) =
      sum_by-cons (λ (x : Trail). length x.steps) (trail_of making t) (trails_of making traces)
      ∙ ap (λ n. length t.steps + n) (trails_count traces)
      ∙ sym (sum_by-cons (λ (x : Traced B). length x.steps) t traces)

module _ {B M : Type 0} (nodes : List (Progress B M)) where
  -- how many there are from a place on
  abbrev pub steps_from : ℕ → ℕ
  steps_from k = steps_of (traces_of (drop k nodes))

  pub steps_next : (k : ℕ) (p : Progress B M) → slice_get nodes k ≡ Some p
      → steps_from k ≡ length p.trace.steps + steps_from (k + 1)
  steps_next k p at =
      ap (λ (l : List (Progress B M)). steps_of (traces_of l)) (drop_next nodes k p at)
      ∙ sum_by-cons (λ (x : Traced B). length x.steps) p.trace (traces_of (drop (k + 1) nodes))

  pub steps_end : (k : ℕ) → length nodes ≤ k → steps_from k ≡ 0
  steps_end k le = ap (λ (l : List (Progress B M)). steps_of (traces_of l)) (drop_all k nodes le)
