-- For which coordinator of the definitions a running one stands.
use Rattle.std.specs.Prelude.{◌≡◌, ℕ, List, [], Option, None, false}
use Rattle.kx_coord.specs.CoordinatorState.{CoordinatorState}
use Rattle.kx_coord.specs.Noted.{SameAnswered}
use Rattle.kx_machine.specs.Meaning.{NodeState, AtCoordinator, AtPartition, AtClient, IsTaken}
use Rattle.kx_machine.specs.Meaning.{AtProcessor}
use Rattle.kx_machine.specs.Stores.{Allows}
use Rattle.kx_machine.specs.declared.taken.Taken.{Taken}
use Rattle.kx_model.specs.Coordinator.{TxnEntry}
use Rattle.kx_model.specs.CoordinatorNode.{Coordinator}
use Rattle.kx_model.specs.Disk.{Store, made, reread}
use Rattle.kx_model.specs.Step.{Input}
use Rattle.kx_txnlog.specs.Opening.{IsRight}
use Rattle.kx_txnlog.specs.Reading.{notes_in}

-- a coordinator whose log was opened at this moment, with the entry of its opening
abbrev pub opened_coordinator : List TxnEntry → ℕ → Coordinator
opened_coordinator log now = record { disk = made log; clock = now; answered = [] }

-- the bytes spell these notes, and behind them nothing, or the front of one
pub record ReadAs (bytes : List ℕ) (notes : List TxnEntry) : Type 0 where
  pub notes_are : (notes_in bytes).notes ≡ notes
  pub right : IsRight (notes_in bytes).fault

-- it has that log, that clock and those answers to markers, and its store holds what that one's
-- does
pub record RunsAs (co : Coordinator) (running : CoordinatorState) : Type 0 where
  pub notes : running.log.notes ≡ co.disk.kept
  pub closed : running.log.closed ≡ co.disk.closed
  pub clock : running.clock ≡ co.clock
  pub answered : SameAnswered running.answered co.answered
  -- what a restart reads
  pub stored : ReadAs running.log.store.bytes (reread co.disk)
  -- only a log that is closed has an entry behind it
  pub behind : co.disk.closed ≡ false → co.disk.hidden ≡ None

abbrev pub Stands : NodeState → CoordinatorState → Type 0
Stands (AtCoordinator co) running = RunsAs co running
Stands (AtPartition number p) running = ⊥
Stands (AtClient c) running = ⊥
Stands (AtProcessor p) running = ⊥

-- what its store may do in the next step, with an entry of this length, if one is appended
abbrev pub MayDo : CoordinatorState → Option ℕ → Store → Type 0
MayDo running = Allows running.log.store.appends running.log.store.loads

-- it took the input as each node does for which it stood
abbrev pub Takes : Input → CoordinatorState → CoordinatorState → Taken → Type 0
Takes input old new taken = (state : NodeState) → Stands state old
    → IsTaken state input (MayDo old) (λ s. Stands s new) taken

-- it stands for each node for which it stood
abbrev pub Keeps : CoordinatorState → CoordinatorState → Type 0
Keeps old new = (state : NodeState) → Stands state old → Stands state new
