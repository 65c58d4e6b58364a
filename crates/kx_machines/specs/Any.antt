-- Machines of every kind behind one type.
use Rattle.std.specs.Prelude.{◌≡◌, ℕ, Option}
use Rattle.kx_client_node.specs.Clients.{any_store, state_of}
use Rattle.kx_machine.specs.Meaning.{NodeState}
use Rattle.kx_machines.specs.Brokers.{broker_allows, broker_failures, broker_stands}
use Rattle.kx_machines.specs.declared.any.AnyMachine.{AnyMachine}
use Rattle.kx_machines.specs.declared.any.AnyMachine.TheVariants as any
use Rattle.kx_model.specs.Disk.{Store}
use Rattle.kx_system.specs.Processor.{Images}

-- the machine stands for this node
abbrev pub any_stands : {S F : Type 0} → (F → Images) → NodeState → AnyMachine S F → Type 0
any_stands image_of state (any.Broker m) = broker_stands state m
any_stands image_of state (any.Client c) = state ≡ state_of image_of c

-- what its store may do in the next step, with an entry of this length
abbrev pub any_allows : {S F : Type 0} → AnyMachine S F → Option ℕ → Store → Type 0
any_allows (any.Broker m) = broker_allows m
any_allows (any.Client c) = any_store

-- how often the device of its store failed; a client has none
abbrev pub any_failures : {S F : Type 0} → AnyMachine S F → ℕ
any_failures (any.Broker m) = broker_failures m
any_failures (any.Client c) = 0
