use Rattle.std.proofs.Common.{◌≡◌, ℕ, ℤ, List, Some, Ok, true, inl, inr, subst, arith}
use Rattle.std.proofs.lemmas.Grind.{common_steps}
use Rattle.kx_membership.specs.Group.{new_group, synced_of}
use Rattle.kx_membership.specs.Protocols.{assigned_to}
use Rattle.kx_membership.specs.Roster.{has}
use Rattle.kx_membership.specs.Steps.{IsAssigned, after_all}
use Rattle.kx_membership.specs.declared.group.Group.{Group}
use Rattle.kx_membership.specs.declared.group.Phase.TheVariants as phase
use Rattle.kx_membership.proofs.Stepping.{assigned_in}
use Rattle.kx_membership.proofs.laws.assignments_are_the_leaders.Goals as goal

answered : (g : Group) (number : ℕ) (generation : ℤ) (bytes : List ℕ)
    → synced_of g number generation ≡ Some (Ok bytes)
    → (g.phase ≡ phase.Stable) × (g.generation ≡ generation)
    × (has number g.roster.members ≡ true) × (bytes ≡ assigned_to number g.assignments)
answered g number generation bytes e = grind (arith, common_steps)

pub returns-clause-assigned : goal.returns-clause-assigned
returns-clause-assigned c = λ steps number generation bytes e.
    let g = after_all new_group steps in
    let is = answered g number generation bytes e in
    elim (assigned_in new_group steps is.0) [
      | inl begun ↦ absurd (cc (begun.0))
      | inr assigned ↦ (
        g.assignments,
        subst (λ (n : ℤ). IsAssigned new_group steps n g.assignments) is.1 assigned,
        is.3,
      )
    ]
