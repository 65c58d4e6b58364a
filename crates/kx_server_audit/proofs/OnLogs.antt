-- Nodes that were opened on logs.
use Rattle.std.proofs.Common.{◌≡◌, ◌∙◌, ◌++◌, ◌∷◌, [], ℕ, List, ap, refl, subst, sym}
use Rattle.kx_coord.specs.Calls.{IsOpen}
use Rattle.kx_coord.specs.CoordinatorState.{CoordinatorState}
use Rattle.kx_coord_node.specs.Stands.{Stands, opened_coordinator}
use Rattle.kx_log.specs.Store.{StoreState}
use Rattle.kx_machine.specs.Meaning.{AtCoordinator, NodeState}
use Rattle.kx_message.specs.declared.message.Message.{Message}
use Rattle.kx_model.specs.Coordinator.{TxnEntry}
use Rattle.kx_model.specs.Markers.{reopen}
use Rattle.kx_trace_audit.specs.Beginnings.{IsOpenedCoordinator}
use Rattle.kx_txnlog.specs.LogState as entries
use Rattle.kx_txnlog.specs.Reading.{notes_in}

-- a coordinator that was opened on a store with these bytes
pub coordinator_opened : (store : StoreState) (bytes : List ℕ) (time : ℕ) (m : CoordinatorState)
    (sent : List Message) → store.bytes ≡ bytes → IsOpen store time m sent
    → Stands (AtCoordinator (opened_coordinator m.log.notes time)) m
    → (state : NodeState) × IsOpenedCoordinator time (notes_in bytes).notes state × Stands state m
coordinator_opened store bytes time m sent same is stands =
    let found = (notes_in bytes).notes in
    let read : is.read.notes ≡ found = is.reads.opened.notes_are.notes_are
    ∙ ap (λ (b : List ℕ). (notes_in b).notes) same in
    let notes : m.log.notes ≡ found ++ is.note ∷ [] =
    ap (λ (l : entries.LogState). l.notes) is.log.rest
    ∙ ap (λ (ns : List TxnEntry). ns ++ is.note ∷ []) read in (
      AtCoordinator (opened_coordinator (found ++ is.note ∷ []) time),
      record { entry = is.note; next = ap reopen (sym read) ∙ is.reads.next; state_is = refl },
      subst (λ (ns : List TxnEntry). Stands (AtCoordinator (opened_coordinator ns time)) m) notes
          stands,
    )
