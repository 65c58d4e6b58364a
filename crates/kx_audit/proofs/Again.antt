-- A step that is taken again.
use Rattle.std.proofs.Common.{ℕ, Option, Result, Ok, Err, MatchResult, IfOk}
use Rattle.kx_machine.specs.Meaning.{IsTaken, NodeState, entry_bytes}
use Rattle.kx_machine.specs.declared.taken.Taken.{Taken}
use Rattle.kx_model.specs.Disk.{Store}
use Rattle.kx_model.specs.Step.{Input}

-- if a machine takes an input as its store allows it, and what its store allows is what a store
-- may meet, it takes it as such a store lets it
pub taken_so : {E : Type 0} (answer : Result Taken E) (Stood Stands : NodeState → Type 0)
    (input : Input) (Allows : Option ℕ → Store → Type 0) (Meets : NodeState → Store → Type 0)
    → ((node : NodeState) → Stood node → MatchResult answer (IsTaken node input Allows Stands)
    (λ refused. Stands node))
    → ((node : NodeState) (size : Option ℕ) (store : Store) → Stood node → Allows size store
    → Meets node store)
    → IfOk answer (λ taken. (node : NodeState) → Stood node
    → IsTaken node input (λ size. Meets node) Stands taken)
taken_so (Ok taken) Stood Stands input Allows Meets takes meets = λ node stood.
    let t = takes node stood in
    record {
      store = t.store;
      allowed = meets node (entry_bytes node input) t.store stood t.allowed;
      stands = t.stands;
      answer = t.answer;
    }
taken_so (Err refused) Stood Stands input Allows Meets takes meets = tt
