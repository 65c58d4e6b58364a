-- What opening the groups of a partition gives, and reading its store again (KIP-447): the log that
-- the partition has, if each batch of it was one that groups append.
use Rattle.std.specs.Prelude.{◌≡◌, ◌++◌, ◌⊎◌, List, ◌∷◌}
use Rattle.kx_laws.specs.Grown.{IsGrown}
use Rattle.kx_log.specs.declared.fault.OpenFault.{OpenFault}
use Rattle.kx_log.specs.LogState.{LogState}
use Rattle.kx_log.specs.Opening.{IsOpened, NotRead, closed_after}
use Rattle.kx_log.specs.Store.{StoreState}
use Rattle.kx_model.specs.Log.{Stored, entries, entry_of}
use Rattle.kx_partition.specs.Opening.{ReloadsGrown, RereadFaults}
use Rattle.kx_group.specs.Log.{IsFitting, IsGroupLog, IsUnfit}

-- the groups append a batch of the log behind those before it, which they appended too
pub record HasFitting (log : List Stored) : Type 0 where
  pub before : List Stored
  pub stored : Stored
  pub behind : List Stored
  pub parts : log ≡ before ++ stored ∷ behind
  pub groups : IsGroupLog before
  pub fits : IsFitting (entries before) (entry_of stored)

-- why a log isn't one of groups: memory runs out only at a batch that they append
abbrev pub ReadFaults : List Stored → OpenFault → Type 0
ReadFaults log = NotRead (IsUnfit log) (HasFitting log)

-- the groups of a partition, whose log is one that they grew
pub record OpensGroups (partition groups : LogState) : Type 0 where
  pub same : groups ≡ partition
  pub log : IsGroupLog partition.batches

-- the partition comes back as it was
pub record NotOpened (partition back : LogState) (fault : OpenFault) : Type 0 where
  pub same : back ≡ partition
  pub faults : ReadFaults partition.batches fault

------ a store that is read again

pub record ReloadsGroups (old new : LogState) (content : List Stored) : Type 0 where
  pub reloads : ReloadsGrown old new content
  pub groups : IsGroupLog content

-- the partition's log was read again, and isn't one of groups
pub record IsNoGroups (old new : LogState) (fault : OpenFault) : Type 0 where
  pub content : List Stored
  pub store : StoreState
  pub opened : IsOpened old.store store content
  pub grown : IsGrown content
  pub rest : new ≡ record old { closed = closed_after fault old.closed; store = store }
  pub faults : ReadFaults content fault

abbrev pub NotReloaded : LogState → LogState → OpenFault → Type 0
NotReloaded old new fault = RereadFaults old new fault ⊎ IsNoGroups old new fault
