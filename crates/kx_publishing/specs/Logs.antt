-- The record batches of a server of a partition are those of the node for which it stands.
use Rattle.std.specs.Prelude.{◌≡◌, [], refl}
use Rattle.kx_broker.specs.Offsets.{StandsForGroups}
use Rattle.kx_broker.specs.Serving.{Serving, StandsFor}
use Rattle.kx_coord.specs.CoordinatorState.{CoordinatorState}
use Rattle.kx_coord_node.specs.Stands.{Stands}
use Rattle.kx_machine.specs.Logs.{batches_of}
use Rattle.kx_machine.specs.Meaning.{NodeState, AtCoordinator, AtPartition, AtClient, AtProcessor}

pub partition_log : (server : Serving) (state : NodeState) → StandsFor state server
    → server.log.batches ≡ batches_of state
partition_log server (AtCoordinator co) stands = absurd stands
partition_log server (AtPartition number p) stands = stands.1.disk.kept
partition_log server (AtClient c) stands = absurd stands
partition_log server (AtProcessor p) stands = absurd stands

pub offsets_log : (server : Serving) (state : NodeState) → StandsForGroups state server
    → server.log.batches ≡ batches_of state
offsets_log server (AtCoordinator co) stands = absurd stands
offsets_log server (AtPartition number p) stands = stands.1.disk.kept
offsets_log server (AtClient c) stands = absurd stands
offsets_log server (AtProcessor p) stands = absurd stands

-- the coordinator has none
pub coordinator_log : (running : CoordinatorState) (state : NodeState) → Stands state running
    → [] ≡ batches_of state
coordinator_log running (AtCoordinator co) stands = refl
coordinator_log running (AtPartition number p) stands = absurd stands
coordinator_log running (AtClient c) stands = absurd stands
coordinator_log running (AtProcessor p) stands = absurd stands
