-- What an auditor sees of steps in one order, and what it finds as it runs each trace again.
use Rattle.std.specs.Prelude.{◌≡◌, ℕ, List, [], ◌∷◌, ◌++◌, map, filter, slice_get, Some}
use Rattle.std.specs.List.{flat_map}
use Rattle.kx_audit.specs.Joined.{AreApart, AreJoined, GoesOn, Passed, WasHandedOut, at_node}
use Rattle.kx_audit.specs.Joined.{led_to, steps_in}
use Rattle.kx_audit.specs.Making.{Trail, named, node_of}
use Rattle.kx_audit.specs.Nodes.{same_node}
use Rattle.kx_machine.specs.Meaning.{NodeState}
use Rattle.kx_machine.specs.declared.taken.Taken.{Taken}
use Rattle.kx_message.specs.declared.message.Message.{Message}
use Rattle.kx_message.specs.declared.message.NodeId.{NodeId}
use Rattle.kx_nodes.specs.declared.trace.Step.{Step}

-- a step in the merged order: the node's name, the step, and its answer
pub record Told : Type 0 where
  pub node : NodeId
  pub step : Step
  pub taken : Taken

abbrev pub told_of : Passed → Told
told_of p = record { node = p.node; step = p.step; taken = p.taken }

abbrev pub told_in : List Passed → List Told
told_in ps = map told_of ps

abbrev pub takens_in : List Passed → List Taken
takens_in ps = map (λ p. p.taken) ps

abbrev pub told_steps : List Told → List Step
told_steps told = map (λ x. x.step) told

abbrev pub told_takens : List Told → List Taken
told_takens told = map (λ x. x.taken) told

-- all that was handed out
abbrev pub told_messages : List Told → List Message
told_messages told = flat_map (λ x. x.taken.messages) told

-- those at the node of this name
abbrev pub told_at : NodeId → List Told → List Told
told_at name told = filter (λ x. same_node x.node name) told

------ one order

-- each message that a step takes in is one of these, or one of a step before it
abbrev pub AreToldInOrder : List Message → List Told → Type 0
AreToldInOrder sent [] = Unit {0}
AreToldInOrder sent (x ∷ told) =
    WasHandedOut sent x.step.input × AreToldInOrder (sent ++ x.taken.messages) told

-- it is at the node of a trace
abbrev pub IsToldOf : List Trail → Told → Type 0
IsToldOf trails x =
    (k : ℕ) × (t : Trail) × (slice_get trails k ≡ Some t) × (x.node ≡ named t.made)

-- the steps of traces, with answers, were put into one order, if these messages had arrived from
-- outside
pub record AreMerged (arrived : List Message) (trails : List Trail) (told : List Told)
    : Type 0 where
  pub apart : AreApart trails
  pub each : (k : ℕ) (t : Trail) → slice_get trails k ≡ Some t
      → told_steps (told_at (named t.made) told) ≡ t.steps
  pub no_others : (j : ℕ) (x : Told) → slice_get told j ≡ Some x → IsToldOf trails x
  pub in_order : AreToldInOrder arrived told

------ a trace that is run again

-- from this node on the steps answer so, and lead to one that is such
pub record AnswersSo (made : NodeState) (told : List Told) (Stands : NodeState → Type 0)
    : Type 0 where
  pub way : List Passed
  pub goes : GoesOn made way
  pub steps_are : steps_in way ≡ told_steps told
  pub takens_are : takens_in way ≡ told_takens told
  pub stands : Stands (led_to made way)

-- each trace that is run again answers as is told, and leads to such a node
abbrev pub AllAnswer : List Trail → List Told → (ℕ → NodeState → Type 0) → Type 0
AllAnswer trails told Stands = (k : ℕ) (t : Trail) → slice_get trails k ≡ Some t
    → AnswersSo (node_of t.made) (told_at (named t.made) told) (Stands k)

-- so they are joined, and the node of each trace comes to be such
pub record AreFound (arrived : List Message) (trails : List Trail) (told : List Told)
    (Stands : ℕ → NodeState → Type 0) : Type 0 where
  pub merged : List Passed
  pub joined : AreJoined arrived trails merged
  pub told_is : told_in merged ≡ told
  pub stand : (k : ℕ) (t : Trail) → slice_get trails k ≡ Some t
      → Stands k (led_to (node_of t.made) (at_node (named t.made) merged))

-- the node of each trace is the one at its place
abbrev pub AtPlace : List NodeState → ℕ → NodeState → Type 0
AtPlace nodes k node = slice_get nodes k ≡ Some node
