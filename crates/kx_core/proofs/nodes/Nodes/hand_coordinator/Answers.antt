use Rattle.std.proofs.Common.{subst, sym}
use Rattle.kx_core.specs.World.{StandFor, given}
use Rattle.kx_core.proofs.Standing.{by_coordinator}
use Rattle.kx_machine.specs.Meaning.{AtCoordinator}
use Rattle.kx_core.proofs.nodes.Nodes.hand_coordinator.Goals as goal

pub returns-clause-stand : goal.returns-clause-stand
returns-clause-stand g c = λ w h.
    let stand = subst (λ nodes.
    StandFor g.C.Machine.stands g.P.Machine.stands g.O.Machine.stands nodes w)
    (sym c.self.view_is) h in
    by_coordinator g.C.Machine.stands g.P.Machine.stands g.O.Machine.stands _ w c.args.mode
    (given c.args.handed) c.hand.new.machine c.clock_after-clock.result c.in_ok-taken.taken stand
    (c.in_ok-taken.ensures (AtCoordinator w.coordinator) stand.coordinator)
    c.clock_after-clock.ensures
