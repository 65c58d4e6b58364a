-- A trace that was run again, and how much of it is put into the order of all steps.
use Rattle.std.specs.Prelude.{◌≡◌, ℕ, ◌+◌, ◌-◌, ◌≤◌, List, [], ◌∷◌, length, map, sum_by, slice_get}
use Rattle.std.specs.Prelude.{Some, take, drop}
use Rattle.std.specs.List.{flat_map}
use Rattle.kx_audit.specs.Making.{NodeMaking, Trail, named, node_of, trail_of}
use Rattle.kx_audit.specs.Rerun.{RunsAgain}
use Rattle.kx_audit.specs.Told.{AnswersSo, Told}
use Rattle.kx_machine.specs.Meaning.{NodeState}
use Rattle.kx_machine.specs.declared.taken.Taken.{Taken}
use Rattle.kx_message.specs.declared.message.Message.{Message}
use Rattle.kx_message.specs.declared.message.NodeId.{NodeId}
use Rattle.kx_nodes.specs.Again.{RunsOn}
use Rattle.kx_nodes.specs.Replay.{Traced}
use Rattle.kx_nodes.specs.declared.receipt.Receipt.{Receipt}
use Rattle.kx_nodes.specs.declared.trace.Step.{Step}

-- the trace, what each of its steps answered, how many of them are done, and the machine behind all
pub record Progress (B M : Type 0) : Type 0 where
  pub trace : Traced B
  pub takens : List Taken
  pub done : ℕ
  pub machine : M

-- steps of the node of this name, with their answers
abbrev pub told_by : NodeId → List Step → List Taken → List Told
told_by name [] takens = []
told_by name (step ∷ steps) [] = []
told_by name (step ∷ steps) (taken ∷ takens) =
    record { node = name; step = step; taken = taken } ∷ told_by name steps takens

-- so many steps of a node that was made so are taken again, and the machine can go on with the rest
pub record IsRunTo {M : Type 0} (stands : NodeState → M → Type 0) (name : NodeId)
    (made : NodeState) (steps : List Step) (count : ℕ) (takens : List Taken) (machine : M)
    : Type 0 where
  pub answers : AnswersSo made (told_by name (take count steps) takens)
      (λ node. stands node machine × RunsOn made (take count steps) (drop count steps) node)
  pub again : RunsAgain (drop count steps) made answers.way
  pub count_is : length takens ≡ count

-- all that was handed out with these answers
abbrev pub messages_in : List Taken → List Message
messages_in takens = flat_map (λ taken. taken.messages) takens

abbrev pub progressed : {B M : Type 0} → Progress B M → Progress B M
progressed p = record p { done = p.done + 1 }

-- how many steps are left
abbrev pub left : {B M : Type 0} → Progress B M → ℕ
left p = length p.trace.steps - p.done

abbrev pub traces_of : {B M : Type 0} → List (Progress B M) → List (Traced B)
traces_of nodes = map (λ p. p.trace) nodes

abbrev pub machines_of : {B M : Type 0} → List (Progress B M) → List M
machines_of nodes = map (λ p. p.machine) nodes

abbrev pub steps_of : {B : Type 0} → List (Traced B) → ℕ
steps_of traces = sum_by (λ t. length t.steps) traces

module _ {B : Type 0} (making : B → NodeMaking) where
  abbrev pub trails_of : List (Traced B) → List Trail
  trails_of traces = map (trail_of making) traces

  module _ {M : Type 0} where
    abbrev pub name_at : Progress B M → NodeId
    name_at p = named (making p.trace.made)

    -- all that the trace tells
    abbrev pub line_of : Progress B M → List Told
    line_of p = told_by (name_at p) p.trace.steps p.takens

    -- the receipt is of this step of the trace
    pub record IsOfLine (p : Progress B M) (receipt : Receipt) (x : Told) : Type 0 where
      pub node_is : receipt.node ≡ name_at p
      pub there : slice_get (line_of p) receipt.place ≡ Some x
      pub input_is : receipt.input ≡ x.step.input
      pub taken_is : receipt.taken ≡ x.taken

    module _ (stands : NodeState → M → Type 0) where
      -- the steps answer so, and the machine stands for the node to which they lead
      pub record IsReplayed (p : Progress B M) : Type 0 where
        pub answers : AnswersSo (node_of (making p.trace.made)) (line_of p)
            (λ node. stands node p.machine)
        pub again : RunsAgain [] (node_of (making p.trace.made)) answers.way
        pub whole : length p.takens ≡ length p.trace.steps
        pub within : p.done ≤ length p.trace.steps

      -- nothing of this trace is done
      pub record IsBegun (trace : Traced B) (p : Progress B M) : Type 0 where
        pub trace_is : p.trace ≡ trace
        pub done_is : p.done ≡ 0
        pub replayed : IsReplayed p

      abbrev pub AreReplayed : List (Progress B M) → Type 0
      AreReplayed nodes =
          (k : ℕ) (p : Progress B M) → slice_get nodes k ≡ Some p → IsReplayed p
