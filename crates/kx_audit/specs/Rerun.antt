-- What the stores did as the traces were run again: in each step what its mark and the later steps
-- of its trace tell. So each step is an event whose store is known.
use Rattle.std.specs.Prelude.{◌≡◌, ◌+◌, ◌++◌, ℕ, List, [], ◌∷◌, drop, slice_get, Option, Some, None}
use Rattle.kx_audit.specs.Joined.{Passed, steps_in}
use Rattle.kx_audit.specs.Schedule.{IsEventOf}
use Rattle.kx_audit.specs.declared.turn.Turn.{Turn}
use Rattle.kx_machine.specs.Meaning.{NodeState, input_of, node_step}
use Rattle.kx_machine.specs.declared.taken.Taken.{Taken}
use Rattle.kx_model.specs.Disk.{Store}
use Rattle.kx_nodes.specs.Again.{store_for}
use Rattle.kx_nodes.specs.Replay.{Traced}
use Rattle.kx_nodes.specs.declared.trace.Step.{Step}
use Rattle.kx_system.specs.System.{System, SystemEvent, system_step}

------ the steps of one node

-- what is said of a step: the node before it, the steps after it, the step, its answer, and the node
-- after it
abbrev pub StepIs : Type 1
StepIs = NodeState → List Step → Step → Taken → NodeState → Type 0

-- it is said of each step, if the rest comes after all of them
abbrev pub AllAre : StepIs → List Step → NodeState → List Passed → Type 0
AllAre Is rest before [] = Unit {0}
AllAre Is rest before (p ∷ ps) =
    Is before (steps_in ps ++ rest) p.step p.taken p.after × AllAre Is rest p.after ps

-- the node takes the step with the store that the steps after it tell
pub record TakesAgain (before : NodeState) (behind : List Step) (step : Step) (taken : Taken)
    (after : NodeState) : Type 0 where
  pub after_is : after ≡ (node_step before (store_for step behind) (input_of step.input)).state
  pub messages_are : taken.messages
      ≡ (node_step before (store_for step behind) (input_of step.input)).messages

abbrev pub RunsAgain : List Step → NodeState → List Passed → Type 0
RunsAgain rest before ps = AllAre TakesAgain rest before ps

------ all steps

abbrev pub behind_in : {B : Type 0} → Option (Traced B) → ℕ → List Step
behind_in None place = []
behind_in (Some trace) place = drop (place + 1) trace.steps

-- the steps of a trace after the one at this place
abbrev pub behind_at : {B : Type 0} → List (Traced B) → Turn → List Step
behind_at traces turn = behind_in (slice_get traces turn.trace) turn.step

-- whichever number its message has, the step with this store leads to where the event does
pub record IsAgain (s : System) (p : Passed) (event : SystemEvent) (store : Store) : Type 0 where
  pub leads : (other : SystemEvent) → IsEventOf s.world.sent p.node p.step.input store other
      → (system_step s other).0 ≡ (system_step s event).0

-- so it is of the events, one after the other, each with the store that the later steps of its trace
-- tell
abbrev pub AllAgain : {B : Type 0} → List (Traced B) → System → List Turn → List Passed
    → List SystemEvent → Type 0
AllAgain traces s [] [] [] = Unit {0}
AllAgain traces s (turn ∷ turns) (p ∷ ps) (event ∷ events) =
    IsAgain s p event (store_for p.step (behind_at traces turn))
    × AllAgain traces (system_step s event).0 turns ps events
AllAgain traces s turns ps events = ⊥
