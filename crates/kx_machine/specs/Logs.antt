-- The log of a node, of any kind.
use Rattle.std.specs.Prelude.{List, []}
use Rattle.kx_machine.specs.Meaning.{NodeState, AtCoordinator, AtPartition, AtClient}
use Rattle.kx_machine.specs.Meaning.{AtProcessor}
use Rattle.kx_model.specs.Coordinator.{TxnEntry}
use Rattle.kx_model.specs.Log.{Stored}

-- its record batches
abbrev pub batches_of : NodeState → List Stored
batches_of (AtCoordinator co) = []
batches_of (AtPartition number p) = p.disk.kept
batches_of (AtClient c) = []
batches_of (AtProcessor p) = []

-- its entries of transactions
abbrev pub notes_of : NodeState → List TxnEntry
notes_of (AtCoordinator co) = co.disk.kept
notes_of (AtPartition number p) = []
notes_of (AtClient c) = []
notes_of (AtProcessor p) = []
