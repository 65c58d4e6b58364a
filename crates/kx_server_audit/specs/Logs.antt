-- The logs that a server left, as the bytes of their files.
use Rattle.std.specs.Prelude.{◌≡◌, ℕ, Bool, true, false, List, length, take, Option, Some, None}
use Rattle.std.specs.Prelude.{if◌then◌else◌}
use Rattle.kx_log.specs.Log.{Wrong, log_in, texts}
use Rattle.kx_log.specs.LogState.{LogState}
use Rattle.kx_log.specs.Opening.{IsRight}
use Rattle.kx_machine.specs.Meaning.{AtClient, AtCoordinator, AtPartition, AtProcessor, NodeState}
use Rattle.kx_machine.specs.Meaning.{node_step}
use Rattle.kx_model.specs.Coordinator.{TxnEntry}
use Rattle.kx_model.specs.Disk.{Works, reread}
use Rattle.kx_model.specs.Log.{Stored}
use Rattle.kx_model.specs.Markers.{reopen}
use Rattle.kx_model.specs.Step.{Restarts}
use Rattle.kx_trace.specs.declared.node.TracedNode.{TracedNode}
use Rattle.kx_trace.specs.declared.node.TracedNode.TheVariants as traced
use Rattle.kx_trace_audit.specs.Logs.{but_last, opened_with}
use Rattle.kx_txnlog.specs.LogState as entries
use Rattle.kx_txnlog.specs.Opening as opening
use Rattle.kx_txnlog.specs.Opening.{AreIn}
use Rattle.kx_txnlog.specs.Reading.{notes_in}

------ batches

-- opening a store with these bytes finds these batches
pub record AreBatches (bytes : List ℕ) (log : List Stored) : Type 0 where
  pub right : IsRight (log_in bytes).tail
  pub batches_are : (log_in bytes).batches ≡ log

-- the log was opened on a store with these bytes
pub record IsBatchFile (bytes : List ℕ) (log : LogState) : Type 0 where
  pub batches : AreBatches bytes log.batches
  pub store : log.store.bytes ≡ texts log.batches

-- the whole batches in these bytes, after which nothing damaged begins, have this many bytes
pub record AreWholeBatches (bytes : List ℕ) (len : ℕ) : Type 0 where
  pub right : IsRight (log_in bytes).tail
  pub len_is : len ≡ length (texts (log_in bytes).batches)

------ entries

-- opening a store with these bytes finds these entries
pub record AreEntries (bytes : List ℕ) (notes : List TxnEntry) : Type 0 where
  pub right : opening.IsRight (notes_in bytes).fault
  pub notes_are : (notes_in bytes).notes ≡ notes

-- the whole entries in these bytes, after which nothing damaged begins, have this many bytes
pub record AreWholeEntries (bytes : List ℕ) (len : ℕ) : Type 0 where
  pub right : opening.IsRight (notes_in bytes).fault
  pub notes_are : AreIn bytes len (notes_in bytes).notes

-- the log was opened on a store with these bytes
pub record IsEntryFile (bytes : List ℕ) (log : entries.LogState) : Type 0 where
  pub len : ℕ
  pub entries : AreEntries bytes log.notes
  pub whole : AreWholeEntries bytes len
  pub store : log.store.bytes ≡ take len bytes

------ of a node

-- opening a store with these bytes finds what a restart of the node finds: its log, and the entry of
-- an append that failed, if that stands after it
abbrev pub LogIs : NodeState → List ℕ → Type 0
LogIs (AtPartition number p) bytes = AreBatches bytes (reread p.disk)
LogIs (AtCoordinator co) bytes = AreEntries bytes (reread co.disk)
LogIs (AtClient c) bytes = ⊥
LogIs (AtProcessor p) bytes = ⊥

-- the node after a restart in which nothing fails
abbrev pub after_restart : NodeState → NodeState
after_restart state = (node_step state Works (Restarts 0)).state

-- the entries that the last opening of a coordinator's log found
abbrev pub found_notes : entries.LogState → List TxnEntry
found_notes log = if log.closed then log.notes else but_last log.notes

-- the same of the node's log, where nothing stands after it; the epoch is left out that a restart of
-- the coordinator wrote, if the node was just restarted
abbrev pub HoldsLog : Bool → NodeState → List ℕ → Type 0
HoldsLog restarted (AtPartition number p) bytes = AreBatches bytes p.disk.kept
HoldsLog true (AtCoordinator co) bytes = AreEntries bytes (opened_with co.disk)
HoldsLog false (AtCoordinator co) bytes = AreEntries bytes co.disk.kept
HoldsLog restarted (AtClient c) bytes = ⊥
HoldsLog restarted (AtProcessor p) bytes = ⊥

-- a restart can write no epoch any more
abbrev pub IsUsedUp : NodeState → Type 0
IsUsedUp (AtCoordinator co) = reopen (reread co.disk) ≡ None
IsUsedUp (AtPartition number p) = ⊥
IsUsedUp (AtClient c) = ⊥
IsUsedUp (AtProcessor p) = ⊥

-- how many bytes of whole entries the log of a node has that is these bytes, unless they are damaged
abbrev pub HasWhole : TracedNode → List ℕ → Option ℕ → Type 0
HasWhole traced.Coordinator bytes (Some len) = AreWholeEntries bytes len
HasWhole traced.Coordinator bytes None = opening.IsWrong (notes_in bytes).fault
HasWhole (traced.Partition number) bytes (Some len) = AreWholeBatches bytes len
HasWhole (traced.Partition number) bytes None = (log_in bytes).tail ≡ Wrong
