-- The running server of the offsets partition, and the node of the definitions for which it stands.
use Rattle.std.specs.Prelude.{◌≡◌, ℕ, ℤ, pos, List, false}
use Rattle.kx_broker.specs.Serving.{IsServedBy, Serving, Steps, closes, has_failed}
use Rattle.kx_group.specs.Log.{IsGroupLog}
use Rattle.kx_group.specs.Opening.{ReadFaults}
use Rattle.kx_laws.specs.Grown.{IsGrown}
use Rattle.kx_log.specs.Log.{IsLog, texts}
use Rattle.kx_log.specs.declared.fault.OpenFault.{OpenFault}
use Rattle.kx_log.specs.LogState.{LogState}
use Rattle.kx_log.specs.Store.{StoreState}
use Rattle.kx_machine.specs.Meaning.{NodeState, AtCoordinator, AtPartition, AtClient, AtProcessor}
use Rattle.kx_message.specs.Ranges.{offsets_partition}
use Rattle.kx_message.specs.declared.code.ErrorCode.{ErrorCode}
use Rattle.kx_message.specs.declared.message.Held.{Held}
use Rattle.kx_message.specs.declared.payload.PartitionOffset.{PartitionOffset}
use Rattle.kx_model.specs.Disk.{Store}
use Rattle.kx_model.specs.Groups.{offsets_batch}
use Rattle.kx_model.specs.Log.{Stored}
use Rattle.kx_model.specs.PartitionNode.{Partition, Taken}
use Rattle.kx_model.specs.Verification.{Parked, Request, ToGroup}
use Rattle.kx_offsets.specs.Facts.{CommitFits}
use Rattle.kx_partition.specs.Opening.{Rebuilds}

------ its log

-- each batch was the one to come next, and one that groups append behind those before it
pub record IsOffsetsLog (log : List Stored) : Type 0 where
  pub grown : IsGrown log
  pub groups : IsGroupLog log

-- what is known of the log that groups have
pub record IsKept (log : LogState) : Type 0 where
  pub placed : IsLog log.batches
  pub fits : IsOffsetsLog log.batches
  pub holds : log.closed ≡ false → log.store.bytes ≡ texts log.batches

-- opened on a store
pub record OpensOffsets (store : StoreState) (log : LogState) : Type 0 where
  pub rebuilds : Rebuilds store log
  pub groups : IsGroupLog log.batches

-- a partition was opened on it, whose log isn't one of groups
pub record HasOtherLog (store : StoreState) (log : LogState) (fault : OpenFault) : Type 0 where
  pub rebuilds : Rebuilds store log
  pub faults : ReadFaults log.batches fault

------ what it has parked

-- a commit of offsets that begins at sequence 0
pub record CommitsAt0 (r : Request) : Type 0 where
  pub group : List ℕ
  pub member : ℕ
  pub generation : ℤ
  pub held : Held
  pub offsets : List PartitionOffset
  pub target : r.target ≡ ToGroup group member generation
  pub text : r.text ≡ offsets_batch group held (pos 0) offsets
  pub fits : CommitFits group held (pos 0) offsets

abbrev pub ParksCommit : Parked → Type 0
ParksCommit parked = CommitsAt0 parked.request

------ the node

-- the server stands for the node of the offsets partition
abbrev pub KeepsOffsets : Partition → Serving → Type 0
KeepsOffsets = IsServedBy IsOffsetsLog CommitsAt0 offsets_partition

abbrev pub StandsForGroups : NodeState → Serving → Type 0
StandsForGroups (AtCoordinator co) server = ⊥
StandsForGroups (AtPartition number p) server =
    (number ≡ offsets_partition) × KeepsOffsets p server
StandsForGroups (AtClient c) server = ⊥
StandsForGroups (AtProcessor p) server = ⊥

------ a step

-- the drop of a member from its group
abbrev pub DropsMember : (Partition → Serving → Type 0) → Partition → Serving → Serving
    → (Store → Taken) → ErrorCode → Type 0
DropsMember Stands p old new step code =
    Steps Stands old new (λ store. (step store).partition) (λ store. (code ≡ (step store).code)
    × (has_failed old new ≡ closes p (step store).partition))
