-- The step of which a trace tells next.
use Rattle.std.proofs.Common.{◌≡◌, ◌∙◌, ℕ, Bool, Option, Some, None, drop}
use Rattle.std.specs.Prelude.{IfSome, MatchOption, slice_get}
use Rattle.kx_follow.specs.Following.{Followed}
use Rattle.kx_machine.specs.Meaning.{NodeState}
use Rattle.kx_machine.specs.declared.machine.StoreMode.{StoreMode}
use Rattle.kx_message.specs.declared.message.NodeId.{NodeId}
use Rattle.kx_trace_audit.specs.Auditing.{Auditing}
use Rattle.kx_trace_audit.specs.Items.{BeginsTold}
use Rattle.kx_trace_audit.specs.Logs.{log_size}
use Rattle.kx_trace_audit.specs.Lookahead.{IsDecided, mode_for}
use Rattle.kx_trace_audit.specs.Peeking.{IsNext, IsStepAs}
use Rattle.kx_trace_audit.specs.Readings.{Reading, ending_of}
use Rattle.kx_trace_audit.specs.Servers.{name_of}
use Rattle.kx_trace_audit.specs.Stepping.{IsUntaken}
use Rattle.kx_trace_audit.specs.Told.{Told}
use Rattle.kx_trace_audit.specs.declared.peek.ToldStep.{ToldStep}

module _ {B M : Type 0} (stands : NodeState → M → Type 0) (audit : Auditing B M) (trace : ℕ)
    (reading : Reading) (there : slice_get audit.traces trace ≡ Some reading) (told : Told)
    (len : ℕ) (begins : BeginsTold reading.unread told len) (stood : Bool)
    (decided : (node : Followed B M) → slice_get audit.following.nodes trace ≡ Some node
    → (state : NodeState) → stands state node.machine
    → IsDecided told (log_size state) (ending_of reading) (drop len reading.unread) (Some stood))
    (name : NodeId) (name_is : name ≡ name_of reading.node)
    (store : StoreMode) (store_is : store ≡ mode_for told stood) where
  -- what is told next, if it was taken
  pub is_next : (o : Option ToldStep)
      → MatchOption o (IsUntaken told) (IsStepAs name told store)
      → IfSome o (IsNext stands audit trace)
  is_next None untaken = tt
  is_next (Some step) is = record {
    reading = reading;
    there = there;
    told = told;
    len = len;
    begins = begins;
    stood = stood;
    decided = decided;
    step_is = record {
      node_is = is.node_is ∙ name_is;
      input_is = is.input_is;
      store_is = is.store_is ∙ store_is;
    };
  }
