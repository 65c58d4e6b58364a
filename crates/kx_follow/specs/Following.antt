-- Nodes of a server whose steps are made again, in one order, while the requests of clients arrive
-- from outside.
use Rattle.std.specs.Prelude.{◌≡◌, ◌++◌, ℕ, List, [], ◌∷◌, All, map, slice_get, Some}
use Rattle.kx_audit.specs.Arrivals.{requests_in}
use Rattle.kx_audit.specs.Joined.{GoesOn, Passed, TakesInOrder, at_node, led_to, steps_in}
use Rattle.kx_audit.specs.Making.{NodeMaking, Trail, named}
use Rattle.kx_audit.specs.Schedule.{IsNodeMaking, IsStep}
use Rattle.kx_follow.specs.Pending.{AreLeft, Waiting}
use Rattle.kx_machine.specs.Meaning.{NodeState}
use Rattle.kx_machine.specs.declared.input.Input.{Input}
use Rattle.kx_machine.specs.declared.machine.StoreMode.{StoreMode}
use Rattle.kx_machine.specs.declared.taken.Taken.{Taken}
use Rattle.kx_message.specs.declared.message.Message.{Message}
use Rattle.kx_message.specs.declared.message.NodeId.{NodeId}
use Rattle.kx_nodes.specs.Again.{MayMeet}
use Rattle.kx_nodes.specs.Replay.{Takes, mark_of}
use Rattle.kx_outside.specs.Requests.{IsRequest}

-- how a node was made, and its machine after the steps so far
pub record Followed (B M : Type 0) : Type 0 where
  pub made : B
  pub machine : M

-- the nodes, and the frames of what was sent and not taken yet
pub record Following (B M : Type 0) : Type 0 where
  pub nodes : List (Followed B M)
  pub pending : Waiting

-- the requests that these steps take in
abbrev pub arrived_in : List Passed → List Message
arrived_in history = requests_in (steps_in history)

abbrev pub makings_of : {B M : Type 0} → List (Followed B M) → List B
makings_of nodes = map (λ n. n.made) nodes

module _ {B M : Type 0} (making : B → NodeMaking) where
  abbrev pub name_of : Followed B M → NodeId
  name_of n = named (making n.made)

  -- no two nodes have one name
  abbrev pub AreApart : List (Followed B M) → Type 0
  AreApart nodes = (j k : ℕ) (n o : Followed B M) → slice_get nodes j ≡ Some n
      → slice_get nodes k ≡ Some o → name_of n ≡ name_of o → j ≡ k

  -- the step is one of these nodes
  pub record IsOf (nodes : List (Followed B M)) (p : Passed) : Type 0 where
    pub number : ℕ
    pub node : Followed B M
    pub there : slice_get nodes number ≡ Some node
    pub name_is : p.node ≡ name_of node

  -- how the node was made, and its steps in this history
  abbrev pub trail_in : List Passed → Followed B M → Trail
  trail_in history n =
      record { made = making n.made; steps = steps_in (at_node (name_of n) history) }

  abbrev pub trails_in : List Passed → List (Followed B M) → List Trail
  trails_in history nodes = map (trail_in history) nodes

  -- where the node's steps in this history lead that was there before them
  abbrev pub state_after : NodeState → List Passed → Followed B M → NodeState
  state_after start history n = led_to start (at_node (name_of n) history)

  module _ (stands : NodeState → M → Type 0) where
    -- the node's steps lead, from where it was in the beginning, to one for which its machine stands
    pub record IsLed (starts : List NodeState) (history : List Passed) (k : ℕ) (n : Followed B M)
        : Type 0 where
      pub fits : IsNodeMaking (making n.made)
      pub start : NodeState
      pub begins : slice_get starts k ≡ Some start
      pub goes : GoesOn start (at_node (name_of n) history)
      pub stands_so : stands (state_after start history n) n.machine

    -- these steps were made, one after the other, by nodes that were there in the beginning: each
    -- takes in a request of a client, or what one before it sent; and what else was sent waits
    pub record HasMade (starts : List NodeState) (history : List Passed) (f : Following B M)
        : Type 0 where
      pub apart : AreApart f.nodes
      pub led : (k : ℕ) (n : Followed B M) → slice_get f.nodes k ≡ Some n
          → IsLed starts history k n
      pub no_others : (j : ℕ) (p : Passed) → slice_get history j ≡ Some p → IsOf f.nodes p
      pub in_order : TakesInOrder (arrived_in history) history
      pub requests : All IsRequest (arrived_in history)
      pub fits : All IsStep (steps_in history)
      pub left : AreLeft history f.pending

    -- the node of this number makes one more step: it takes this input, with a store that may meet
    -- the mode, gives this answer, and comes to one for which its machine then stands
    pub record MakesOneMore (starts : List NodeState) (number : ℕ) (input : Input)
        (mode : StoreMode) (taken : Taken) (history : List Passed) (old new : Following B M)
        : Type 0 where
      pub node : Followed B M
      pub there : slice_get old.nodes number ≡ Some node
      pub start : NodeState
      pub begins : slice_get starts number ≡ Some start
      pub passed : Passed
      pub name_is : passed.node ≡ name_of node
      pub input_is : passed.step.input ≡ input
      pub mark_is : passed.step.mark ≡ mark_of taken
      pub taken_is : passed.taken ≡ taken
      pub takes : Takes (state_after start history node) passed.step passed.taken passed.after
      pub meets : MayMeet (state_after start history node) mode takes.store
      pub next : Followed B M
      pub there_then : slice_get new.nodes number ≡ Some next
      pub stands_so : stands passed.after next.machine
      pub makings : makings_of new.nodes ≡ makings_of old.nodes
      pub made : HasMade starts (history ++ passed ∷ []) new
