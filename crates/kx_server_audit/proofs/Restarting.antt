-- The log of a node before and after a restart.
use Rattle.std.proofs.Common.{◌≡◌, ◌-◌, ◌∙◌, ℕ, Bool, true, false, cond, List, [], ◌∷◌, ◌++◌, Option}
use Rattle.std.proofs.Common.{Some, None, ap, append-nil, arith, length, length-append, map, refl, subst}
use Rattle.std.proofs.Common.{Err, IfOk, MatchBool, Ok, Result, option_to_list, sym, take}
use Rattle.std.proofs.lemmas.Bool.{false≢true}
use Rattle.std.proofs.lemmas.List.{length-map, take-map, take_at}
use Rattle.std.specs.Prelude.{IsFalse, IsTrue}
use Rattle.kx_log.specs.Store.{StoreState}
use Rattle.kx_machine.specs.Meaning.{AtClient, AtCoordinator, AtPartition, AtProcessor, NodeState}
use Rattle.kx_machine.specs.Meaning.{is_closed}
use Rattle.kx_machines.specs.Brokers.{broker_stands}
use Rattle.kx_machines.specs.declared.broker.BrokerMachine.{BrokerMachine}
use Rattle.kx_machines.specs.declared.broker.BrokerMachine.TheVariants as broker
use Rattle.kx_model.specs.Coordinator.{TxnEntry}
use Rattle.kx_model.specs.CoordinatorNode.{Coordinator, opens}
use Rattle.kx_model.specs.Disk.{Disk, Reopens, reread}
use Rattle.kx_model.specs.Markers.{reopen}
use Rattle.kx_server_audit.specs.Logs.{AreBatches, AreEntries, HoldsLog, IsUsedUp, LogIs}
use Rattle.kx_server_audit.specs.Logs.{after_restart, found_notes}
use Rattle.kx_trace_audit.specs.Logs.{but_last}
use Rattle.kx_txnlog.specs.Entry.{note_of}
use Rattle.kx_txnlog.specs.LogState.{LogState}
use Rattle.kx_txnlog.specs.declared.entry.Entry.{Entry}

------ all but the last entry

-- the notes of all entries but the last are all notes but the last
pub but_last_of : (es : List Entry) (log : LogState) → map note_of es ≡ log.notes
    → log.closed ≡ false → map note_of (take (length es - 1) es) ≡ found_notes log
but_last_of es log e not_closed =
    sym (take-map note_of (length es - 1) es)
    ∙ ap (λ (n : ℕ). take (n - 1) (map note_of es)) (sym (length-map es note_of))
    ∙ ap but_last e
    ∙ sym (ap (λ (b : Bool). cond b log.notes (but_last log.notes)) not_closed)

but_last-push : (notes : List TxnEntry) (note : TxnEntry) → but_last (notes ++ note ∷ []) ≡ notes
but_last-push notes note =
    let size = length-append notes (note ∷ []) in
    let n : length (notes ++ note ∷ []) - 1 ≡ length notes = omega (arith, size) in
    ap (λ (k : ℕ). take k (notes ++ note ∷ [])) n ∙ take_at notes (note ∷ []) (length notes) refl

------ a node whose log isn't closed

-- nothing stands after its log
abbrev ShowsAll : NodeState → Type 0
ShowsAll (AtPartition number p) = p.disk.hidden ≡ None
ShowsAll (AtCoordinator co) = co.disk.hidden ≡ None
ShowsAll (AtClient c) = Unit {0}
ShowsAll (AtProcessor p) = Unit {0}

pub shows_all : (state : NodeState) (m : BrokerMachine StoreState) → broker_stands state m
    → is_closed state ≡ false → ShowsAll state
shows_all (AtCoordinator co) (broker.Coordinator m) stands not_closed = stands.behind not_closed
shows_all (AtCoordinator co) (broker.Partition m) stands not_closed = absurd stands
shows_all (AtCoordinator co) (broker.Offsets m) stands not_closed = absurd stands
shows_all (AtPartition number p) (broker.Coordinator m) stands not_closed = absurd stands
shows_all (AtPartition number p) (broker.Partition m) stands not_closed =
    stands.1.disk.shown not_closed
shows_all (AtPartition number p) (broker.Offsets m) stands not_closed =
    stands.1.disk.shown not_closed
shows_all (AtClient c) m stands not_closed = tt
shows_all (AtProcessor p) m stands not_closed = tt

reread_shown : {A : Type 0} (disk : Disk A) → disk.hidden ≡ None → disk.kept ≡ reread disk
reread_shown disk e =
    sym (ap (λ h. disk.kept ++ option_to_list h) e ∙ append-nil disk.kept)

pub kept_is : (state : NodeState) (bytes : List ℕ) → ShowsAll state → HoldsLog false state bytes
    → LogIs state bytes
kept_is (AtPartition number p) bytes e h = subst (AreBatches bytes) (reread_shown p.disk e) h
kept_is (AtCoordinator co) bytes e h = subst (AreEntries bytes) (reread_shown co.disk e) h
kept_is (AtClient c) bytes e h = absurd h
kept_is (AtProcessor p) bytes e h = absurd h

pub is_kept : (state : NodeState) (bytes : List ℕ) → ShowsAll state → LogIs state bytes
    → HoldsLog false state bytes
is_kept (AtPartition number p) bytes e h = subst (AreBatches bytes) (sym (reread_shown p.disk e)) h
is_kept (AtCoordinator co) bytes e h = subst (AreEntries bytes) (sym (reread_shown co.disk e)) h
is_kept (AtClient c) bytes e h = absurd h
is_kept (AtProcessor p) bytes e h = absurd h

------ a node that was restarted

-- the coordinator, by the epoch that opening its log writes
coordinator_found : (co : Coordinator) (bytes : List ℕ) (o : Option TxnEntry)
    → co.disk.closed ≡ true → is_closed (AtCoordinator (opens co 0 Reopens o).0) ≡ false
    → HoldsLog true (AtCoordinator (opens co 0 Reopens o).0) bytes
    → AreEntries bytes (reread co.disk)
coordinator_found co bytes None closed not_closed h = cc
coordinator_found co bytes (Some note) closed not_closed h =
    subst (AreEntries bytes) (but_last-push (reread co.disk) note) h

found_coordinator : (co : Coordinator) (bytes : List ℕ) (o : Option TxnEntry)
    → co.disk.closed ≡ true → is_closed (AtCoordinator (opens co 0 Reopens o).0) ≡ false
    → AreEntries bytes (reread co.disk)
    → HoldsLog true (AtCoordinator (opens co 0 Reopens o).0) bytes
found_coordinator co bytes None closed not_closed h = cc
found_coordinator co bytes (Some note) closed not_closed h =
    subst (AreEntries bytes) (sym (but_last-push (reread co.disk) note)) h

coordinator_used_up : (co : Coordinator) (o : Option TxnEntry) → o ≡ reopen (reread co.disk)
    → is_closed (AtCoordinator (opens co 0 Reopens o).0) ≡ true → reopen (reread co.disk) ≡ None
coordinator_used_up co None e closed = sym e
coordinator_used_up co (Some note) e closed = cc

-- what the restart found is what opening the store finds
pub restart_found : (state : NodeState) (bytes : List ℕ) → is_closed state ≡ true
    → is_closed (after_restart state) ≡ false → HoldsLog true (after_restart state) bytes
    → LogIs state bytes
restart_found (AtPartition number p) bytes closed not_closed h = h
restart_found (AtCoordinator co) bytes closed not_closed h =
    coordinator_found co bytes (reopen (reread co.disk)) closed not_closed h
restart_found (AtClient c) bytes closed not_closed h = absurd h
restart_found (AtProcessor p) bytes closed not_closed h = absurd h

pub found_restart : (state : NodeState) (bytes : List ℕ) → is_closed state ≡ true
    → is_closed (after_restart state) ≡ false → LogIs state bytes
    → HoldsLog true (after_restart state) bytes
found_restart (AtPartition number p) bytes closed not_closed h = h
found_restart (AtCoordinator co) bytes closed not_closed h =
    found_coordinator co bytes (reopen (reread co.disk)) closed not_closed h
found_restart (AtClient c) bytes closed not_closed h = absurd h
found_restart (AtProcessor p) bytes closed not_closed h = absurd h

-- a restart in which nothing fails leaves only a coordinator closed that has no epoch left
pub stays_closed : (state : NodeState) (bytes : List ℕ) → is_closed (after_restart state) ≡ true
    → LogIs state bytes → IsUsedUp state
stays_closed (AtPartition number p) bytes closed h = cc
stays_closed (AtCoordinator co) bytes closed h =
    coordinator_used_up co (reopen (reread co.disk)) refl closed
stays_closed (AtClient c) bytes closed h = absurd h
stays_closed (AtProcessor p) bytes closed h = absurd h

------ answers

pub yes_by : {E : Type 0} (r : Result Bool E) (P Q N : Type 0) → (P → Q)
    → IfOk r (λ same. MatchBool same P N) → IfOk r (λ same. IsTrue same → Q)
yes_by (Ok true) P Q N f h = λ t. f h
yes_by (Ok false) P Q N f h = λ t. absurd (false≢true t)
yes_by (Err e) P Q N f h = tt

pub no_by : {E : Type 0} (r : Result Bool E) (P Q N : Type 0) → (Q → P)
    → IfOk r (λ same. MatchBool same P (P → ⊥)) → IfOk r (λ same. IsFalse same → Q → N)
no_by (Ok true) P Q N f h = λ t q. absurd (false≢true (sym t))
no_by (Ok false) P Q N f h = λ t q. absurd (h (f q))
no_by (Err e) P Q N f h = tt
