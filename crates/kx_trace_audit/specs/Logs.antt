-- The logs of nodes as bytes, and what a restart found of them.
use Rattle.std.specs.Prelude.{◌≡◌, ◌-◌, ◌^◌, ℕ, List, [], length, min, take, if◌then◌else◌}
use Rattle.std.specs.List.{flat_map}
use Rattle.kx_log.specs.Log.{texts}
use Rattle.kx_machine.specs.Meaning.{AtClient, AtCoordinator, AtPartition, AtProcessor, NodeState}
use Rattle.kx_model.specs.Coordinator.{TxnEntry}
use Rattle.kx_model.specs.Disk.{Disk}
use Rattle.kx_txnlog.specs.Layout.{entry_text}

-- the entries of a coordinator's log, one after the other
abbrev pub entry_texts : List TxnEntry → List ℕ
entry_texts entries = flat_map entry_text entries

-- the entries of the node's log, one after the other; a client keeps none
abbrev pub log_text : NodeState → List ℕ
log_text (AtPartition number p) = texts p.disk.kept
log_text (AtCoordinator co) = entry_texts co.disk.kept
log_text (AtClient c) = []
log_text (AtProcessor p) = []

-- how many bytes they have, as far as 64 bits can say it
abbrev pub log_size : NodeState → ℕ
log_size state = min (length (log_text state)) (2 ^ 64 - 1)

-- all entries but the last
abbrev pub but_last : List TxnEntry → List TxnEntry
but_last entries = take (length entries - 1) entries

-- the entries that opening the coordinator found: it wrote the last itself, unless its epoch could
-- not be written, and so its log is closed
abbrev pub opened_with : Disk TxnEntry → List TxnEntry
opened_with disk = if disk.closed then disk.kept else but_last disk.kept

-- the log that a restart found, which led to this node
abbrev pub found_text : NodeState → List ℕ
found_text (AtPartition number p) = texts p.disk.kept
found_text (AtCoordinator co) = entry_texts (opened_with co.disk)
found_text (AtClient c) = []
found_text (AtProcessor p) = []

abbrev pub HasFound : NodeState → ℕ → Type 0
HasFound state n = n ≡ length (found_text state)
