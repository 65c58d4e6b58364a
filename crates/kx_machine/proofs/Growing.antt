-- A step only adds to the log of its node.
use Rattle.std.proofs.Common.{[], refl}
use Rattle.kx_machine.specs.Logs.{batches_of, notes_of}
use Rattle.kx_machine.specs.Meaning.{NodeState, AtCoordinator, AtPartition, AtClient}
use Rattle.kx_machine.specs.Meaning.{AtProcessor, node_step}
use Rattle.kx_model.specs.Disk.{GrowsTo, Store}
use Rattle.kx_model.specs.Step.{Input}
use Rattle.kx_model.proofs.NodeSteps.{coordinator_step_grows, partition_step_grows}

pub batches_grow : (state : NodeState) (store : Store) (input : Input)
    → GrowsTo (batches_of state) (batches_of (node_step state store input).state)
batches_grow (AtCoordinator co) store input = record { more = []; parts = refl }
batches_grow (AtPartition number p) store input = partition_step_grows number p store input
batches_grow (AtClient c) store input = record { more = []; parts = refl }
batches_grow (AtProcessor p) store input = record { more = []; parts = refl }

pub notes_grow : (state : NodeState) (store : Store) (input : Input)
    → GrowsTo (notes_of state) (notes_of (node_step state store input).state)
notes_grow (AtCoordinator co) store input = coordinator_step_grows co store input
notes_grow (AtPartition number p) store input = record { more = []; parts = refl }
notes_grow (AtClient c) store input = record { more = []; parts = refl }
notes_grow (AtProcessor p) store input = record { more = []; parts = refl }
