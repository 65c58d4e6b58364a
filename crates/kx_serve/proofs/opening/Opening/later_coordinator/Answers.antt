use Rattle.kx_coord_node.specs.Stands.{opened_coordinator}
use Rattle.kx_serve.proofs.Coordinators.{made}
use Rattle.kx_serve.proofs.opening.Opening.later_coordinator.Goals as goal

pub returns-in-Ok-clause-stands : goal.returns-in-Ok-clause-stands
returns-in-Ok-clause-stands g c =
    made c.recorded.result _ (opened_coordinator c.in-Ok.machine.log.notes c.args.self.now.time)
    c.recorded.ensures.machine c.in-Ok.ensures.stands
