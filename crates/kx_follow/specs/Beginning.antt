-- Nodes of which no step was made again, and the steps that may have led to them.
use Rattle.std.specs.Prelude.{◌≡◌, ℕ, All, List, slice_get, Some}
use Rattle.kx_audit.specs.Joined.{GoesOn, Passed, TakesInOrder, at_node, led_to, steps_in}
use Rattle.kx_audit.specs.Making.{NodeMaking, node_of}
use Rattle.kx_audit.specs.Schedule.{IsNodeMaking, IsStep}
use Rattle.kx_follow.specs.Following.{AreApart, Followed, IsOf, arrived_in, name_of}
use Rattle.kx_machine.specs.Meaning.{NodeState}
use Rattle.kx_message.specs.declared.message.NodeId.{NodeId}
use Rattle.kx_outside.specs.Requests.{IsRequest}

module _ {B M : Type 0} (making : B → NodeMaking) where
  -- no node has the name
  abbrev pub IsNewName : NodeId → List (Followed B M) → Type 0
  IsNewName name nodes = (k : ℕ) (n : Followed B M) → slice_get nodes k ≡ Some n
      → name_of making n ≡ name → ⊥

  -- no two have one name, and the numbers of each are in their ranges
  pub record AreNodes (nodes : List (Followed B M)) : Type 0 where
    pub apart : AreApart making nodes
    pub fit : (k : ℕ) (n : Followed B M) → slice_get nodes k ≡ Some n → IsNodeMaking (making n.made)

  -- the machine of each node stands for the one of its number
  abbrev pub AreAt : (NodeState → M → Type 0) → List NodeState → List (Followed B M) → Type 0
  AreAt stands starts nodes = (k : ℕ) (n : Followed B M) → slice_get nodes k ≡ Some n
      → (start : NodeState) × (slice_get starts k ≡ Some start) × stands start n.machine

  ------ the steps before

  -- the node's steps among these led from the node as it was made to this one
  pub record IsLedBy (before : List Passed) (start : NodeState) (n : Followed B M) : Type 0 where
    pub goes : GoesOn (node_of (making n.made)) (at_node (name_of making n) before)
    pub leads : led_to (node_of (making n.made)) (at_node (name_of making n) before) ≡ start

  -- these are steps of the nodes, and led to those in the beginning; each took in a request of a
  -- client, or what one before it sent
  pub record AreLedBy (before : List Passed) (starts : List NodeState)
      (nodes : List (Followed B M)) : Type 0 where
    pub each : (k : ℕ) (n : Followed B M) (start : NodeState) → slice_get nodes k ≡ Some n
        → slice_get starts k ≡ Some start → IsLedBy before start n
    pub no_others : (j : ℕ) (p : Passed) → slice_get before j ≡ Some p → IsOf making nodes p
    pub in_order : TakesInOrder (arrived_in before) before
    pub requests : All IsRequest (arrived_in before)
    pub fits : All IsStep (steps_in before)
