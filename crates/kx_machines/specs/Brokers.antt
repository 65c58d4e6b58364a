-- The machines of a broker behind one type.
use Rattle.std.specs.Prelude.{ℕ, Option}
use Rattle.kx_broker.specs.Offsets.{StandsForGroups}
use Rattle.kx_broker.specs.Serving.{MayDo, StandsFor}
use Rattle.kx_coord_node.specs.Stands as coordinator
use Rattle.kx_coord_node.specs.Stands.{Stands}
use Rattle.kx_machine.specs.Meaning.{NodeState}
use Rattle.kx_model.specs.Disk.{Store}
use Rattle.kx_machines.specs.declared.broker.BrokerMachine.{BrokerMachine}
use Rattle.kx_machines.specs.declared.broker.BrokerMachine.TheVariants as broker

-- the machine stands for this node
abbrev pub broker_stands : {S : Type 0} → NodeState → BrokerMachine S → Type 0
broker_stands state (broker.Coordinator m) = Stands state m
broker_stands state (broker.Partition m) = StandsFor state m
broker_stands state (broker.Offsets m) = StandsForGroups state m

-- what its store may do in the next step, with an entry of this length
abbrev pub broker_allows : {S : Type 0} → BrokerMachine S → Option ℕ → Store → Type 0
broker_allows (broker.Coordinator m) = coordinator.MayDo m
broker_allows (broker.Partition m) = MayDo m
broker_allows (broker.Offsets m) = MayDo m

-- how often the device of its store failed
abbrev pub broker_failures : {S : Type 0} → BrokerMachine S → ℕ
broker_failures (broker.Coordinator m) = m.log.store.failures
broker_failures (broker.Partition m) = m.log.store.failures
broker_failures (broker.Offsets m) = m.log.store.failures
