-- The steps of traces in one order, in which each message is handed out before it is taken in.
use Rattle.std.specs.Prelude.{◌≡◌, ℕ, List, [], ◌∷◌, ◌++◌, map, filter, slice_get, Some, Contains}
use Rattle.std.specs.List.{flat_map}
use Rattle.kx_audit.specs.Making.{Trail, named, node_of}
use Rattle.kx_audit.specs.Nodes.{same_node}
use Rattle.kx_machine.specs.Meaning.{NodeState}
use Rattle.kx_machine.specs.declared.input.Input.{Input}
use Rattle.kx_machine.specs.declared.input.Input.TheVariants as input
use Rattle.kx_machine.specs.declared.taken.Taken.{Taken}
use Rattle.kx_message.specs.declared.message.Message.{Message}
use Rattle.kx_message.specs.declared.message.NodeId.{NodeId}
use Rattle.kx_nodes.specs.Replay.{Takes}
use Rattle.kx_nodes.specs.declared.trace.Step.{Step}

-- a step that was taken: the node's name, the step, its answer, and the node after it
pub record Passed : Type 0 where
  pub node : NodeId
  pub step : Step
  pub taken : Taken
  pub after : NodeState

------ the steps of one node

-- a node takes them, one after the other
abbrev pub GoesOn : NodeState → List Passed → Type 0
GoesOn node [] = Unit {0}
GoesOn node (p ∷ ps) = Takes node p.step p.taken p.after × GoesOn p.after ps

-- where it then stands
abbrev pub led_to : NodeState → List Passed → NodeState
led_to node [] = node
led_to node (p ∷ ps) = led_to p.after ps

abbrev pub steps_in : List Passed → List Step
steps_in ps = map (λ p. p.step) ps

-- those of the node of this name
abbrev pub at_node : NodeId → List Passed → List Passed
at_node name merged = filter (λ p. same_node p.node name) merged

------ messages

abbrev pub handed_out : List Passed → List Message
handed_out ps = flat_map (λ p. p.taken.messages) ps

-- a message that is taken in is one of these
abbrev pub WasHandedOut : List Message → Input → Type 0
WasHandedOut sent (input.Deliver message) = Contains sent message
WasHandedOut sent other = Unit {0}

-- each message that a step takes in is one of these, or one of a step before it
abbrev pub TakesInOrder : List Message → List Passed → Type 0
TakesInOrder sent [] = Unit {0}
TakesInOrder sent (p ∷ ps) =
    WasHandedOut sent p.step.input × TakesInOrder (sent ++ p.taken.messages) ps

------ all of them

-- the steps of the trace, from the node as it was made
pub record IsWay (trail : Trail) (way : List Passed) : Type 0 where
  pub goes : GoesOn (node_of trail.made) way
  pub steps_are : steps_in way ≡ trail.steps

-- no two traces are of one node
abbrev pub AreApart : List Trail → Type 0
AreApart trails = (j k : ℕ) (t u : Trail) → slice_get trails j ≡ Some t
    → slice_get trails k ≡ Some u → named t.made ≡ named u.made → j ≡ k

-- the step is one of a trace
abbrev pub IsOfTrail : List Trail → Passed → Type 0
IsOfTrail trails p =
    (k : ℕ) × (t : Trail) × (slice_get trails k ≡ Some t) × (p.node ≡ named t.made)

-- where these messages had arrived from outside
pub record AreJoined (arrived : List Message) (trails : List Trail) (merged : List Passed)
    : Type 0 where
  pub apart : AreApart trails
  -- those at the node of a trace are the trace's steps, in order, and there are no others
  pub each : (k : ℕ) (t : Trail) → slice_get trails k ≡ Some t
      → IsWay t (at_node (named t.made) merged)
  pub no_others : (k : ℕ) (p : Passed) → slice_get merged k ≡ Some p → IsOfTrail trails p
  pub in_order : TakesInOrder arrived merged
