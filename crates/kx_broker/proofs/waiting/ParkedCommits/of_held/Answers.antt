use Rattle.std.proofs.Common.{List, subst, sym}
use Rattle.kx_broker.proofs.OffsetsParked.{alike_for}
use Rattle.kx_group.specs.Calls.{AreAlike}
use Rattle.kx_model.specs.Verification.{Parked}
use Rattle.kx_broker.proofs.waiting.ParkedCommits.of_held.Goals as goal

pub returns-clause-alike : goal.returns-clause-alike
returns-clause-alike c =
    subst (λ (l : List Parked). AreAlike l) (sym c.parked.ensures.value)
    (alike_for c.self.inside.guard c.args.held c.self.invariant)
