-- What an audit counts.
use Rattle.std.specs.Prelude.{◌≡◌, ℕ, Bool, true, false, List, [], ◌∷◌, count_by, length, sum_by}
use Rattle.kx_audit.specs.Joined.{Passed}
use Rattle.kx_log.specs.Store.{StoreState}
use Rattle.kx_machines.specs.declared.broker.BrokerMachine.{BrokerMachine}
use Rattle.kx_machines.specs.declared.broker.BrokerMachine.TheVariants as broker
use Rattle.kx_model.specs.Coordinator.{TxnEntry, CoordinatorEpoch, Allot, Written, State, Empty}
use Rattle.kx_model.specs.Coordinator.{Ongoing, Prepare, Complete}
use Rattle.kx_server_audit.specs.declared.counts.Counts.{Counts}
use Rattle.kx_trace_audit.specs.Readings.{in_64_bits}

abbrev pub sent_in : List Passed → ℕ
sent_in history = sum_by (λ p. length p.taken.messages) history

-- these are the counts of these steps
pub record AreCounts (history : List Passed) (c : Counts) : Type 0 where
  pub steps : c.steps ≡ in_64_bits (length history)
  pub messages : c.messages ≡ in_64_bits (sent_in history)

------ transactions

-- the outcome of the transaction was decided just now
abbrev pub is_prepared : State → Bool
is_prepared (Prepare outcome) = true
is_prepared Empty = false
is_prepared Ongoing = false
is_prepared (Complete outcome) = false

-- the entry decides a transaction
abbrev pub decides : TxnEntry → Bool
decides (CoordinatorEpoch epoch) = false
decides (Allot id) = false
decides (Written r) = is_prepared r.state

-- how many transactions were decided in the log of a machine; only the coordinator's has any
abbrev pub decided_by : BrokerMachine StoreState → ℕ
decided_by (broker.Coordinator m) = count_by decides m.log.notes
decided_by (broker.Partition m) = 0
decided_by (broker.Offsets m) = 0

-- in that of the first machine, which is the coordinator's if there is one
abbrev pub decided_in : List (BrokerMachine StoreState) → ℕ
decided_in [] = 0
decided_in (m ∷ machines) = decided_by m
