-- All that traces which were run again hand out.
use Rattle.std.specs.Prelude.{◌≡◌, ◌++◌, ℕ, List, slice_get, Some}
use Rattle.std.specs.List.{flat_map}
use Rattle.kx_audit.specs.Making.{NodeMaking, named}
use Rattle.kx_audit.specs.Refused.{TakesStranger}
use Rattle.kx_audit.specs.Replayed.{Progress, messages_in}
use Rattle.kx_message.specs.declared.message.Message.{Message}
use Rattle.kx_message.specs.declared.message.NodeId.{NodeId}

abbrev pub sent_by : {B M : Type 0} → List (Progress B M) → List Message
sent_by nodes = flat_map (λ p. messages_in p.takens) nodes

-- one takes in a message that none of them hands out, and that didn't arrive from outside
pub record HasStranger {B M : Type 0} (arrived : List Message) (nodes : List (Progress B M))
    : Type 0 where
  pub number : ℕ
  pub node : Progress B M
  pub there : slice_get nodes number ≡ Some node
  pub takes : TakesStranger (arrived ++ sent_by nodes) node.trace.steps

-- one is the node of this name
pub record HasName {B M : Type 0} (making : B → NodeMaking) (nodes : List (Progress B M))
    (name : NodeId) : Type 0 where
  pub number : ℕ
  pub node : Progress B M
  pub there : slice_get nodes number ≡ Some node
  pub named_so : named (making node.trace.made) ≡ name
