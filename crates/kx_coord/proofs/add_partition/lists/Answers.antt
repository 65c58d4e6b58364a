use Rattle.std.proofs.Common.{subst}
use Rattle.kx_model.specs.Coordinator.{Row}
use Rattle.kx_model.specs.Requests.{writes}
use Rattle.kx_coord.specs.Internal.Answers.{IsAnswer}
use Rattle.kx_coord.proofs.add_partition.lists.Goals as goal

pub returns : goal.returns
returns c =
    subst (λ (r : Row). IsAnswer c.writes_draft.result (writes r)) c.added.ensures
    c.writes_draft.ensures
