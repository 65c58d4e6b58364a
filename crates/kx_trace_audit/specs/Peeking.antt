-- The step of which a trace tells next.
use Rattle.std.specs.Prelude.{◌≡◌, ℕ, Bool, Option, None, Some, drop, slice_get}
use Rattle.kx_follow.specs.Following.{Followed}
use Rattle.kx_machine.specs.Meaning.{NodeState}
use Rattle.kx_machine.specs.declared.input.Input.{Input}
use Rattle.kx_machine.specs.declared.machine.StoreMode.{StoreMode}
use Rattle.kx_message.specs.declared.message.NodeId.{NodeId}
use Rattle.kx_trace_audit.specs.Auditing.{Auditing}
use Rattle.kx_trace_audit.specs.Items.{BeginsTold}
use Rattle.kx_trace_audit.specs.Logs.{log_size}
use Rattle.kx_trace_audit.specs.Lookahead.{IsDecided, mode_for}
use Rattle.kx_trace_audit.specs.Readings.{Reading, ending_of}
use Rattle.kx_trace_audit.specs.Servers.{name_of}
use Rattle.kx_trace_audit.specs.Stepping.{IsUntaken}
use Rattle.kx_trace_audit.specs.Told.{Told, input_in}
use Rattle.kx_trace_audit.specs.declared.peek.ToldStep.{ToldStep}

-- what the node takes, unless it did not take what is told
abbrev pub IsInput : Told → Option Input → Type 0
IsInput told None = IsUntaken told
IsInput told (Some input) = input ≡ input_in told

-- the step of this node of which is told so, while its store did this
pub record IsStepAs (node : NodeId) (told : Told) (store : StoreMode) (step : ToldStep) : Type 0
  where
    pub node_is : step.node ≡ node
    pub input_is : step.input ≡ input_in told
    pub store_is : step.store ≡ store

-- the trace of this number goes on with what tells of this step; if that leaves open what the
-- store did, the bytes that follow tell it
pub record IsNext {B M : Type 0} (stands : NodeState → M → Type 0) (audit : Auditing B M)
    (trace : ℕ) (step : ToldStep) : Type 0 where
  pub reading : Reading
  pub there : slice_get audit.traces trace ≡ Some reading
  pub told : Told
  pub len : ℕ
  pub begins : BeginsTold reading.unread told len
  pub stood : Bool
  pub decided : (node : Followed B M) → slice_get audit.following.nodes trace ≡ Some node
      → (state : NodeState) → stands state node.machine
      → IsDecided told (log_size state) (ending_of reading) (drop len reading.unread) (Some stood)
  pub step_is : IsStepAs (name_of reading.node) told (mode_for told stood) step
