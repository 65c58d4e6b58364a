use Rattle.kx_coord_node.proofs.Restarting.{made_open}
use Rattle.kx_coord_node.proofs.machine.CoordinatorMachine.new.Goals as goal

pub returns-clause-value : goal.returns-clause-value
returns-clause-value g c =
    made_open (g.S.Store.state c.args.store) c.in_ok-machine.machine
    c.in_ok-machine._none c.in_ok-machine.ensures.value
