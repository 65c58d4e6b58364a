-- What a trace tells, step by step.
use Rattle.std.proofs.Common.{◌≡◌, ℕ, zero, suc, List, [], ◌∷◌, length, Some, refl, ap, subst}
use Rattle.std.proofs.Common.{arith}
use Rattle.std.specs.Prelude.{slice_get}
use Rattle.std.proofs.lemmas.Option.{same_Some}
use Rattle.kx_audit.specs.Replayed.{told_by}
use Rattle.kx_audit.specs.Told.{Told, told_steps, told_takens}
use Rattle.kx_machine.specs.declared.taken.Taken.{Taken}
use Rattle.kx_message.specs.declared.message.NodeId.{NodeId}
use Rattle.kx_nodes.specs.declared.trace.Step.{Step}

------ at a place

pub told_by_at : (name : NodeId) (steps : List Step) (takens : List Taken) (k : ℕ) (step : Step)
    (taken : Taken) → slice_get steps k ≡ Some step → slice_get takens k ≡ Some taken
    → slice_get (told_by name steps takens) k
    ≡ Some (record { node = name; step = step; taken = taken })
told_by_at name [] takens k step taken at there = absurd cc
told_by_at name (s ∷ steps) [] k step taken at there = absurd cc
told_by_at name (s ∷ steps) (t ∷ takens) zero step taken at there = cc
told_by_at name (s ∷ steps) (t ∷ takens) (suc k) step taken at there =
    told_by_at name steps takens k step taken at there

-- and nothing else is told there
pub record IsToldBy (name : NodeId) (steps : List Step) (takens : List Taken) (place : ℕ) (x : Told)
    : Type 0 where
  pub node_is : x.node ≡ name
  pub step_is : slice_get steps place ≡ Some x.step
  pub taken_is : slice_get takens place ≡ Some x.taken

pub told_by_is : (name : NodeId) (steps : List Step) (takens : List Taken) (place : ℕ) (x : Told)
    → slice_get (told_by name steps takens) place ≡ Some x → IsToldBy name steps takens place x
told_by_is name [] takens place x at = absurd cc
told_by_is name (s ∷ steps) [] place x at = absurd cc
told_by_is name (s ∷ steps) (t ∷ takens) zero x at =
    subst (IsToldBy name (s ∷ steps) (t ∷ takens) 0)
    (same_Some (record { node = name; step = s; taken = t }) x at)
    (record { node_is = refl; step_is = refl; taken_is = refl })
told_by_is name (s ∷ steps) (t ∷ takens) (suc place) x at =
    let rest = told_by_is name steps takens place x at in
    record { node_is = rest.node_is; step_is = rest.step_is; taken_is = rest.taken_is }

------ all of it

pub told_by_length : (name : NodeId) (steps : List Step) (takens : List Taken)
    → length takens ≡ length steps → length (told_by name steps takens) ≡ length steps
told_by_length name [] takens e = refl
told_by_length name (s ∷ steps) [] e = absurd (omega (arith, e))
told_by_length name (s ∷ steps) (t ∷ takens) e =
    ap suc (told_by_length name steps takens (omega (arith, e)))

pub told_by_steps : (name : NodeId) (steps : List Step) (takens : List Taken)
    → length takens ≡ length steps → told_steps (told_by name steps takens) ≡ steps
told_by_steps name [] takens e = refl
told_by_steps name (s ∷ steps) [] e = absurd (omega (arith, e))
told_by_steps name (s ∷ steps) (t ∷ takens) e =
    ap (λ (l : List Step). s ∷ l) (told_by_steps name steps takens (omega (arith, e)))

pub told_by_takens : (name : NodeId) (steps : List Step) (takens : List Taken)
    → length takens ≡ length steps → told_takens (told_by name steps takens) ≡ takens
told_by_takens name [] [] e = refl
told_by_takens name [] (t ∷ takens) e = absurd (omega (arith, e))
told_by_takens name (s ∷ steps) [] e = absurd (omega (arith, e))
told_by_takens name (s ∷ steps) (t ∷ takens) e =
    ap (λ (l : List Taken). t ∷ l) (told_by_takens name steps takens (omega (arith, e)))
