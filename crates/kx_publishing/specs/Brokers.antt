-- The log of a machine of a broker, and of any machine.
use Rattle.std.proofs.Common.{ap, sym, ◌∙◌}
use Rattle.std.specs.Prelude.{◌≡◌, List, [], refl}
use Rattle.kx_machine.specs.Logs.{batches_of}
use Rattle.kx_machine.specs.Meaning.{NodeState}
use Rattle.kx_client_node.specs.Clients.{state_of}
use Rattle.kx_client_node.specs.declared.any_client.AnyClient.{AnyClient}
use Rattle.kx_client_node.specs.declared.any_client.AnyClient.TheVariants as kind
use Rattle.kx_machines.specs.Any.{any_stands}
use Rattle.kx_machines.specs.Brokers.{broker_stands}
use Rattle.kx_machines.specs.declared.any.AnyMachine.{AnyMachine}
use Rattle.kx_machines.specs.declared.any.AnyMachine.TheVariants as any
use Rattle.kx_machines.specs.declared.broker.BrokerMachine.{BrokerMachine}
use Rattle.kx_machines.specs.declared.broker.BrokerMachine.TheVariants as broker
use Rattle.kx_model.specs.Log.{Stored}
use Rattle.kx_system.specs.Processor.{Images}
use Rattle.kx_publishing.specs.Logs.{coordinator_log, offsets_log, partition_log}

-- the record batches of its log
abbrev pub broker_log : {S : Type 0} → BrokerMachine S → List Stored
broker_log (broker.Coordinator m) = []
broker_log (broker.Partition m) = m.log.batches
broker_log (broker.Offsets m) = m.log.batches

pub broker_log_is : {S : Type 0} (machine : BrokerMachine S) (state : NodeState)
    → broker_stands state machine → broker_log machine ≡ batches_of state
broker_log_is (broker.Coordinator m) state stands = coordinator_log m state stands
broker_log_is (broker.Partition m) state stands = partition_log m state stands
broker_log_is (broker.Offsets m) state stands = offsets_log m state stands

-- a client has none
abbrev pub any_log : {S F : Type 0} → AnyMachine S F → List Stored
any_log (any.Broker m) = broker_log m
any_log (any.Client c) = []

client_log : {F : Type 0} (image_of : F → Images) (c : AnyClient F)
    → [] ≡ batches_of (state_of image_of c)
client_log image_of (kind.Plain client) = refl
client_log image_of (kind.Processor running) = refl

pub any_log_is : {S F : Type 0} (image_of : F → Images) (machine : AnyMachine S F)
    (state : NodeState) → any_stands image_of state machine → any_log machine ≡ batches_of state
any_log_is image_of (any.Broker m) state stands = broker_log_is m state stands
any_log_is image_of (any.Client c) state stands =
    client_log image_of c ∙ ap batches_of (sym stands)
