-- The coordinator's machine, as it is made and restarted.
use Rattle.std.proofs.Common.{◌≡◌, subst, sym}
use Rattle.kx_machine.specs.Meaning.{AtCoordinator, IsTaken, NodeState}
use Rattle.kx_machine.specs.declared.taken.Taken.{Taken}
use Rattle.kx_machines.specs.Brokers.{broker_allows, broker_stands}
use Rattle.kx_machines.specs.declared.broker.BrokerMachine.{BrokerMachine}
use Rattle.kx_model.specs.CoordinatorNode.{Coordinator}
use Rattle.kx_model.specs.Step.{Input}
use Rattle.kx_recording.specs.Recorded.{Recorded}
use Rattle.kx_serve.specs.Opening.{StandsForCoordinator}

-- a machine that was made
pub made : {S : Type 0} (r : Recorded (BrokerMachine S)) (m : BrokerMachine S) (co : Coordinator)
    → r.machine ≡ m → broker_stands (AtCoordinator co) m → StandsForCoordinator r
made r m co is stands = record {
  coordinator = co;
  stands = subst (λ machine. broker_stands (AtCoordinator co) machine) (sym is) stands;
}

-- one that took a step
pub stepped : {S : Type 0} (old new : Recorded (BrokerMachine S)) (input : Input) (taken : Taken)
    → ((state : NodeState) → broker_stands state old.machine
    → IsTaken state input (broker_allows old.machine) (λ s. broker_stands s new.machine) taken)
    → StandsForCoordinator old → StandsForCoordinator new
stepped old new input taken takes it =
    let next = takes (AtCoordinator it.coordinator) it.stands in record {
      coordinator = _;
      stands = next.stands;
    }
