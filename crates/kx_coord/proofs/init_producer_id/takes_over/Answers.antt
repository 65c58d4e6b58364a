use Rattle.std.proofs.Common.{ap}
use Rattle.kx_model.specs.Coordinator.{Row}
use Rattle.kx_coord.proofs.init_producer_id.takes_over.Goals as goal

pub returns : goal.returns
returns c = λ log next.
    c.writes.ensures _ (ap (λ (r : Row). record r {
      owner = c.args.client;
      timeout = c.args.timeout;
    }) (c.in-Some.ensures log next))
