use Rattle.kx_coord_node.proofs.Restarting.{stands_open}
use Rattle.kx_coord_node.proofs.machine.CoordinatorMachine.open.Goals as goal

pub returns-clause-opened : goal.returns-clause-opened
returns-clause-opened g c =
    stands_open (g.S.Store.state c.args.store) c.args.now c.in_ok-coordinator.coordinator
    c.in_ok-coordinator.handed.items c.in_ok-coordinator.ensures
