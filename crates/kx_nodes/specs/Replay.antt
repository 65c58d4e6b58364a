-- What the trace of a node says of it, and a receipt of the trace.
use Rattle.std.specs.Prelude.{◌≡◌, ℕ, Bool, List, [], ◌∷◌, ◌++◌, length, if◌then◌else◌}
use Rattle.kx_machine.specs.Meaning.{NodeState, AtCoordinator, AtPartition, AtClient}
use Rattle.kx_machine.specs.Meaning.{AtProcessor, input_of, node_step, taken_of}
use Rattle.kx_machine.specs.declared.input.Input.{Input}
use Rattle.kx_machine.specs.declared.taken.Closing.TheVariants.{Read, Write}
use Rattle.kx_machine.specs.declared.taken.Note.{Note}
use Rattle.kx_machine.specs.declared.taken.Note.TheVariants as note
use Rattle.kx_machine.specs.declared.taken.Taken.{Taken}
use Rattle.kx_message.specs.declared.message.NodeId.{NodeId}
use Rattle.kx_message.specs.declared.message.NodeId.TheVariants as node
use Rattle.kx_model.specs.Disk.{Store}
use Rattle.kx_nodes.specs.declared.mark.Mark.{Mark}
use Rattle.kx_nodes.specs.declared.mark.Mark.TheVariants as mark
use Rattle.kx_nodes.specs.declared.receipt.Receipt.{Receipt}
use Rattle.kx_nodes.specs.declared.trace.Step.{Step}

------ a node's name

abbrev pub name_of : NodeState → NodeId
name_of (AtCoordinator co) = node.Coordinator
name_of (AtPartition number p) = node.Partition number
name_of (AtClient c) = node.Client c.number
name_of (AtProcessor p) = node.Client p.client.number

------ marks

abbrev pub mark_by : Note → Bool → Bool → Mark
mark_by (note.Closed Read) failed found = mark.Unread
mark_by (note.Closed Write) failed found = mark.Unwritten found
mark_by note.UsedUp failed found = mark.UsedUp
mark_by other failed found =
    if failed then mark.Failed else (if found then mark.Found else mark.Worked)

-- what a step that is answered so shows of the store
abbrev pub mark_of : Taken → Mark
mark_of taken = mark_by taken.note taken.failed taken.found

------ steps

-- the node takes the step's input, while its store does what the mark shows: the answer, and the
-- node after it
pub record Takes (before : NodeState) (step : Step) (taken : Taken) (after : NodeState)
    : Type 0 where
  pub store : Store
  pub answer : taken
      ≡ taken_of before (input_of step.input) (node_step before store (input_of step.input))
  pub after_is : after ≡ (node_step before store (input_of step.input)).state
  pub mark_is : step.mark ≡ mark_of taken

-- the node that was made makes these steps, and is then that one
pub data Replays (made : NodeState) : List Step → NodeState → Type 0 where
  AsMade : Replays made [] made
  OneMore : (steps : List Step) (before : NodeState) (step : Step) (taken : Taken)
      (after : NodeState) → Replays made steps before → Takes before step taken after
      → Replays made (steps ++ step ∷ []) after

------ traces

-- how a node was made, and its steps
pub record Traced (B : Type 0) : Type 0 where
  pub made : B
  pub steps : List Step

-- the most steps of a trace
abbrev pub most_steps : ℕ
most_steps = 1048576

abbrev pub with_step : {B : Type 0} → Traced B → Step → Traced B
with_step trace step = record trace { steps = trace.steps ++ step ∷ [] }

-- a machine, and the trace of what it took
pub record Recorded (B M : Type 0) : Type 0 where
  pub trace : Traced B
  pub machine : M

-- the trace leads to this node, and the machine stands for it
pub record RunsAs {B M : Type 0} (made_as : B → NodeState) (Stands : NodeState → M → Type 0)
    (recorded : Recorded B M) (node : NodeState) : Type 0 where
  pub replays : Replays (made_as recorded.trace.made) recorded.trace.steps node
  pub stands : Stands node recorded.machine

------ receipts

-- the step of which it is
abbrev pub step_of : Receipt → Step
step_of receipt = record { input = receipt.input; mark = mark_of receipt.taken }

-- a node to which the trace leads answers this to the step
pub record Answers (made : NodeState) (steps : List Step) (step : Step) (taken : Taken)
    : Type 0 where
  pub before : NodeState
  pub after : NodeState
  pub replays : Replays made steps before
  pub takes : Takes before step taken after

-- the receipt of the step behind a trace, in which the node took this input
pub record IsReceipt {B : Type 0} (made_as : B → NodeState) (trace : Traced B) (input : Input)
    (receipt : Receipt) : Type 0 where
  pub node_is : receipt.node ≡ name_of (made_as trace.made)
  pub place_is : receipt.place ≡ length trace.steps
  pub input_is : receipt.input ≡ input
  pub answers : Answers (made_as trace.made) trace.steps (step_of receipt) receipt.taken
