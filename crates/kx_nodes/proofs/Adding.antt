-- A step is added to a trace, and the machine stands for the node after it.
use Rattle.std.proofs.Common.{◌≡◌, ℕ, Option, List, [], ◌∷◌, ◌++◌, refl, sym, subst}
use Rattle.kx_machine.specs.Meaning.{IsTaken, NodeState, input_of, node_step}
use Rattle.kx_machine.specs.declared.input.Input.{Input}
use Rattle.kx_machine.specs.declared.taken.Taken.{Taken}
use Rattle.kx_model.specs.Disk.{Store}
use Rattle.kx_nodes.specs.Replay.{Answers, AsMade, OneMore, Recorded, Replays, RunsAs, Takes}
use Rattle.kx_nodes.specs.Replay.{mark_of}
use Rattle.kx_nodes.specs.declared.mark.Mark.{Mark}
use Rattle.kx_nodes.specs.declared.trace.Step.{Step}

-- a machine with its trace
abbrev pub recorded : {B M : Type 0} → B → List Step → M → Recorded B M
recorded made steps machine = record {
  trace = record { made = made; steps = steps };
  machine = machine;
}

abbrev pub step_with : Input → Mark → Step
step_with input mark = record { input = input; mark = mark }

-- the node after a step
abbrev next : NodeState → Store → Input → NodeState
next before store input = (node_step before store (input_of input)).state

module _ {B M : Type 0} (made_as : B → NodeState) (Stands : NodeState → M → Type 0) (made : B) where
  -- as it was made
  pub begins : (steps : List Step) (machine : M) → steps ≡ [] → Stands (made_as made) machine
      → RunsAs made_as Stands (recorded made steps machine) (made_as made)
  begins steps machine none stands = record {
    replays = subst (λ (s : List Step). Replays (made_as made) s (made_as made)) (sym none) AsMade;
    stands = stands;
  }

  module _ (steps : List Step) (old new : M) (Allows : Option ℕ → Store → Type 0)
      (before : NodeState) (input : Input) (taken : Taken)
      (runs : RunsAs made_as Stands (recorded made steps old) before)
      (t : IsTaken before (input_of input) Allows (λ s. Stands s new) taken) where
    takes : (m : Mark) → m ≡ mark_of taken
        → Takes before (step_with input m) taken (next before t.store input)
    takes m is = record { store = t.store; answer = t.answer; after_is = refl; mark_is = is }

    -- the trace with the step leads to the node after it, for which the machine stands
    pub goes_on : (m : Mark) → m ≡ mark_of taken → (longer : List Step)
        → longer ≡ steps ++ step_with input m ∷ []
        → IsTaken before (input_of input) Allows
        (RunsAs made_as Stands (recorded made longer new)) taken
    goes_on m is longer parts = record {
      store = t.store;
      allowed = t.allowed;
      stands = record {
        replays = subst (λ (s : List Step). Replays (made_as made) s (next before t.store input))
            (sym parts)
            (OneMore steps before (step_with input m) taken (next before t.store input)
            runs.replays (takes m is));
        stands = t.stands;
      };
      answer = t.answer;
    }

    -- what is answered is what a node to which the trace leads answers
    pub answers : Answers (made_as made) steps (step_with input (mark_of taken)) taken
    answers = record {
      before = before;
      after = next before t.store input;
      replays = runs.replays;
      takes = takes (mark_of taken) refl;
    }
