-- A trace that is run again: what the store is to do in each step, by the step's mark and by the
-- steps behind it.
use Rattle.std.specs.Prelude.{◌≡◌, ℕ, Bool, true, false, List, [], ◌∷◌, Option, Some, None}
use Rattle.std.specs.Prelude.{if◌then◌else◌}
use Rattle.kx_batch.specs.Batch.{batch_limit}
use Rattle.kx_machine.specs.Meaning.{NodeState, AtCoordinator, AtPartition, AtClient}
use Rattle.kx_machine.specs.Meaning.{AtProcessor, input_of, node_step}
use Rattle.kx_machine.specs.Stores.{IsMode}
use Rattle.kx_machine.specs.declared.input.Input.{Input}
use Rattle.kx_machine.specs.declared.input.Input.TheVariants as input
use Rattle.kx_machine.specs.declared.machine.StoreMode.{StoreMode}
use Rattle.kx_machine.specs.declared.machine.StoreMode.TheVariants as mode
use Rattle.kx_machine.specs.declared.taken.Taken.{Taken}
use Rattle.kx_model.specs.Disk.{Store, Works, Fails, CannotLoad}
use Rattle.kx_nodes.specs.Replay.{Replays, Takes}
use Rattle.kx_nodes.specs.declared.mark.Mark.{Mark}
use Rattle.kx_nodes.specs.declared.mark.Mark.TheVariants as mark
use Rattle.kx_nodes.specs.declared.trace.Step.{Step}

------ what an append that fails is to leave behind

abbrev pub read_by : Input → Mark → Option Mark → Option Mark
read_by (input.Restart now) mark.Unread later = later
read_by (input.Restart now) m later = Some m
read_by other m later = later

-- the mark of the next restart that read the log
abbrev pub next_read : List Step → Option Mark
next_read [] = None
next_read (step ∷ behind) = read_by step.input step.mark (next_read behind)

-- it met the whole entry; or the epochs were used up, maybe by that entry
abbrev pub meets_whole : Option Mark → Bool
meets_whole (Some mark.Found) = true
meets_whole (Some (mark.Unwritten found)) = found
meets_whole (Some mark.UsedUp) = true
meets_whole other = false

-- the whole entry is to be left behind, and else nothing
abbrev pub leaves_whole : List Step → Bool
leaves_whole behind = meets_whole (next_read behind)

------ what the store is to do

abbrev pub store_by : Mark → Bool → Store
store_by mark.Unread whole = CannotLoad
store_by mark.Failed whole = Fails whole
store_by (mark.Unwritten found) whole = Fails whole
store_by other whole = Works

-- in a step, by what is behind it
abbrev pub store_for : Step → List Step → Store
store_for step behind = store_by step.mark (leaves_whole behind)

-- all of an entry or nothing: a part of it may count as either
abbrev pub mode_by : Mark → Bool → StoreMode
mode_by mark.Unread whole = mode.CannotLoad
mode_by mark.Failed whole = mode.Fails (if whole then batch_limit else 0)
mode_by (mark.Unwritten found) whole = mode.Fails (if whole then batch_limit else 0)
mode_by other whole = mode.Works

-- the same, as a machine's store is told
abbrev pub mode_for : Step → List Step → StoreMode
mode_for step behind = mode_by step.mark (leaves_whole behind)

-- a client and a processor keep no log, so that their store may do anything
abbrev pub keeps_log : NodeState → Bool
keeps_log (AtCoordinator co) = true
keeps_log (AtPartition number p) = true
keeps_log (AtClient c) = false
keeps_log (AtProcessor p) = false

-- the node's store may be that one, if it is told to be so
pub data MayMeet (node : NodeState) (told : StoreMode) (store : Store) : Type 0 where
  AsTold : (size : Option ℕ) → IsMode told size store → MayMeet node told store
  KeepsNone : keeps_log node ≡ false → MayMeet node told store

------ a run again

-- the node to which it leads
abbrev pub again : NodeState → List Step → NodeState
again node [] = node
again node (step ∷ behind) =
    again (node_step node (store_for step behind) (input_of step.input)).state behind

-- the node makes the step, with a store that shows its mark, and this holds behind it
pub record Makes (before : NodeState) (step : Step) (Behind : NodeState → Type 0) : Type 0 where
  pub taken : Taken
  pub after : NodeState
  pub takes : Takes before step taken after
  pub goes_on : Behind after

-- there are stores with which the node makes these steps
abbrev pub CanMake : NodeState → List Step → Type 0
CanMake node [] = Unit {0}
CanMake node (step ∷ behind) = Makes node step (λ after. CanMake after behind)

-- the node that was made comes to this one by the first steps, and can go on with those behind
pub record RunsOn (made : NodeState) (before behind : List Step) (node : NodeState)
    : Type 0 where
  pub replays : Replays made before node
  pub goes_on : CanMake node behind
