-- The nodes of a server, as their logs were opened.
use Rattle.std.specs.Prelude.{◌≡◌, ◌⊎◌, ◌<◌, ◌+◌, ℕ, List, [], ◌∷◌, Option, Some, None}
use Rattle.std.specs.Prelude.{IsTrue, false, true}
use Rattle.logbook.specs.Pages.{Book}
use Rattle.kx_broker.specs.Serving.{opened_partition}
use Rattle.kx_laws.specs.Grown.{IsGrown}
use Rattle.kx_log.specs.Log.{IsLog}
use Rattle.kx_machine.specs.Meaning.{AtCoordinator, AtPartition, NodeState}
use Rattle.kx_message.specs.Ranges.{data_partitions, offsets_partition}
use Rattle.kx_model.specs.CoordinatorNode.{Coordinator}
use Rattle.kx_published.specs.declared.book.Opened.{Opened}
use Rattle.kx_machines.specs.Brokers.{broker_stands}
use Rattle.kx_publishing.specs.Brokers.{broker_log}
use Rattle.kx_machines.specs.declared.broker.BrokerMachine.{BrokerMachine}
use Rattle.kx_model.specs.Log.{Stored}
use Rattle.kx_nodes.specs.Taking.{Alone}
use Rattle.kx_recording.specs.Recorded.{Recorded}
use Rattle.kx_serve.specs.declared.placing.OpenedNode.{OpenedNode}

-- the machine is the server of this partition as its log was opened, and has parked nothing
pub record Serves {M : Type 0} (stands : NodeState → M → Type 0) (log : M → List Stored)
    (number : ℕ) (machine : M) : Type 0 where
  pub as_opened : stands (AtPartition number (opened_partition (log machine))) machine
  pub placed : IsLog (log machine)
  pub grown : IsGrown (log machine)

abbrev pub IsOpened : {S : Type 0} → ℕ → BrokerMachine S → Type 0
IsOpened = Serves broker_stands broker_log

-- the machine stands for a coordinator
pub record StandsForCoordinator {S : Type 0} (r : Recorded (BrokerMachine S)) : Type 0 where
  pub coordinator : Coordinator
  pub stands : broker_stands (AtCoordinator coordinator) r.machine

-- a machine's steps are written to a trace, exactly if there is one; or its trace is broken, and it
-- takes nothing
abbrev pub IsTraced : {T M : Type 0} → Option T → Recorded M → Type 0
IsTraced None r = r.writes ≡ false
IsTraced (Some trace) r = IsTrue r.writes ⊎ (r.is_broken ≡ true)

-- so of a node's
abbrev pub IsTracedNode : {T M : Type 0} → Option T → OpenedNode (Alone (Recorded M)) → Type 0
IsTracedNode trace node = IsTraced trace node.locked.machine

-- the book of a partition's publishes is the one that its name stands for
abbrev pub IsItsBook : (ℕ → Book) → Opened → Type 0
IsItsBook named opened = opened.seen.book ≡ named opened.partition

-- so of a data partition
pub record HasBook (named : ℕ → Book) (opened : Opened) : Type 0 where
  pub is_data : opened.partition < data_partitions
  pub book : IsItsBook named opened

-- so of the offsets partition
pub record HasOffsetsBook (named : ℕ → Book) (opened : Opened) : Type 0 where
  pub is_offsets : opened.partition ≡ offsets_partition
  pub book : IsItsBook named opened

-- a partition's node serves it as its log was opened, and has its book
pub record IsReady {L : Type 0} (stands : NodeState → L → Type 0) (log : L → List Stored)
    (named : ℕ → Book) (node : OpenedNode L) : Type 0 where
  pub serves : Serves stands log node.opened.partition node.locked
  pub book : IsItsBook named node.opened

-- so of a node whose machine's steps may be written to a trace
abbrev pub IsServing : {S : Type 0} → (ℕ → Book) → OpenedNode (Alone (Recorded (BrokerMachine S)))
    → Type 0
IsServing = IsReady (λ node locked. broker_stands node locked.machine.machine)
    (λ locked. broker_log locked.machine.machine)

-- books of partitions, from this one on
abbrev pub InOrder : ℕ → List Opened → Type 0
InOrder number [] = Unit {0}
InOrder number (opened ∷ more) = (opened.partition ≡ number) × InOrder (number + 1) more
