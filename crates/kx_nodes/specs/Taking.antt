-- What a step under a node's lock is, and what it records.
use Rattle.std.specs.Prelude.{◌≡◌, ◌≤◌, ◌↔◌, Err, IfOk, MatchResult, Result, length}
use Rattle.kx_machine.specs.Meaning.{NodeState, node_step, taken_of}
use Rattle.kx_machine.specs.declared.input.Input as given
use Rattle.kx_machine.specs.declared.taken.Taken.{Taken}
use Rattle.kx_message.specs.declared.message.NodeId.{NodeId}
use Rattle.kx_model.specs.Disk.{Store}
use Rattle.kx_model.specs.Step.{Input}
use Rattle.kx_nodes.specs.Replay.{IsReceipt, Recorded, most_steps, step_of, with_step}
use Rattle.kx_nodes.specs.declared.fault.NodeFault.{NodeFault}
use Rattle.kx_nodes.specs.declared.fault.NodeFault.TheVariants as fault
use Rattle.kx_nodes.specs.declared.receipt.Receipt.{Receipt}

-- a node of the definitions answers the input so
pub record IsAnswer (input : Input) (taken : Taken) : Type 0 where
  pub node : NodeState
  pub store : Store
  pub answer : taken ≡ taken_of node input (node_step node store input)

------ with a trace

-- the step is added at the trace's end, and the receipt is of it; a refusal adds nothing, and is
-- that of a full trace exactly if the trace is full
pub record IsRecorded {B M : Type 0} (made_as : B → NodeState) (before : Recorded B M)
    (input : given.Input) (result : Result Receipt NodeFault) (after : Recorded B M)
    : Type 0 where
  pub trace : MatchResult result
      (λ receipt. after.trace ≡ with_step before.trace (step_of receipt))
      (λ refused. after.trace ≡ before.trace)
  pub receipt : IfOk result (IsReceipt made_as before.trace input)
  pub full : (result ≡ Err fault.TraceFull) ↔ (most_steps ≤ length before.trace.steps)

------ without one

-- a machine under the name of its node
pub record Alone (M : Type 0) : Type 0 where
  pub name : NodeId
  pub machine : M

-- the node keeps its name, and no trace is full
pub record IsUnrecorded {M : Type 0} (before : Alone M) (input : given.Input)
    (result : Result Receipt NodeFault) (after : Alone M) : Type 0 where
  pub name : after.name ≡ before.name
  pub full : result ≡ Err fault.TraceFull → ⊥
