use Rattle.kx_coord_node.specs.Stands.{opened_coordinator}
use Rattle.kx_serve.proofs.Coordinators.{made}
use Rattle.kx_serve.proofs.opening.Opening.first_coordinator.Goals as goal

pub returns-in-Ok-clause-stands : goal.returns-in-Ok-clause-stands
returns-in-Ok-clause-stands g c = c.restarted.ensures.stands
    (made c.recorded-made.result _ (opened_coordinator c.in-Ok.machine.log.notes 0)
    c.recorded-made.ensures.machine c.in-Ok.ensures)
