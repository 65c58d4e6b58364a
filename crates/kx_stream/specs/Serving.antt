-- What a machine does with the messages of a stream.
use Rattle.std.specs.Prelude.{◌≡◌, ◌⊎◌, ℕ, List, [], ◌∷◌, ◌++◌, Option}
use Rattle.kx_machine.specs.Meaning.{IsTaken, NodeState}
use Rattle.kx_machine.specs.declared.taken.Taken.{Taken}
use Rattle.kx_message.specs.declared.message.Message.{Message}
use Rattle.kx_model.specs.Disk.{Store}
use Rattle.kx_model.specs.Step.{Comes}

-- a machine is known by the nodes of the definitions for which it stands, and by what its store may
-- do next
module _ {M : Type 0} (stands : NodeState → M → Type 0)
    (allows : M → Option ℕ → Store → Type 0) where
  -- it took the message by a step of the definitions, and handed these out
  pub record Takes (before : M) (message : Message) (handed : List Message) (after : M)
      : Type 0 where
    pub taken : Taken
    pub messages : taken.messages ≡ handed
    pub step : (state : NodeState) → stands state before
        → IsTaken state (Comes message) (allows before) (λ s. stands s after) taken

  -- there was no memory for the step: it handed out nothing, and stands for what it stood for
  pub record Lacks (before : M) (handed : List Message) (after : M) : Type 0 where
    pub nothing : handed ≡ []
    pub still : (state : NodeState) → stands state before → stands state after

  abbrev pub Answers : M → Message → List Message → M → Type 0
  Answers before message handed after =
      Takes before message handed after ⊎ Lacks before handed after

  -- messages in a row: what is handed out for each, one behind the other
  unfoldable pub Serves : M → List Message → List Message → M → Type 0
  Serves before [] handed after = (handed ≡ []) × (after ≡ before)
  Serves before (message ∷ more) handed after =
      (next : M) × (first : List Message) × (others : List Message)
      × Answers before message first next × Serves next more others after
      × (handed ≡ first ++ others)
