-- Nodes whose logs were opened.
use Rattle.std.proofs.Common.{◌≡◌, ◌++◌, ◌∷◌, [], All, ℕ, List, subst, sym}
use Rattle.std.proofs.lemmas.List.Elements.{All-push}
use Rattle.logbook.specs.Pages.{Book}
use Rattle.kx_machines.specs.declared.broker.BrokerMachine.{BrokerMachine}
use Rattle.kx_nodes.specs.Taking.{Alone}
use Rattle.kx_published.specs.declared.book.Opened.{Opened}
use Rattle.kx_recording.specs.Recorded.{Recorded}
use Rattle.kx_serve.specs.Opening.{IsItsBook, IsOpened, IsServing}
use Rattle.kx_serve.specs.declared.placing.OpenedNode.{OpenedNode}

-- a machine under its lock
pub under_lock : {S : Type 0} (named : ℕ → Book) (opened : Opened)
    (machine : Recorded (BrokerMachine S)) (locked : Alone (Recorded (BrokerMachine S)))
    → locked.machine ≡ machine → IsOpened opened.partition machine.machine
    → IsItsBook named opened → IsServing named (record { locked = locked; opened = opened })
under_lock {S} named opened machine locked same serves book =
    let it : IsOpened opened.partition locked.machine.machine =
    subst (λ (m : Recorded (BrokerMachine S)). IsOpened opened.partition m.machine) (sym same)
    serves in record {
      serves = record { as_opened = it.as_opened; placed = it.placed; grown = it.grown };
      book = book;
    }

-- one more node
pub one_more : {S : Type 0} (named : ℕ → Book)
    (old new : List (OpenedNode (Alone (Recorded (BrokerMachine S)))))
    (node : OpenedNode (Alone (Recorded (BrokerMachine S)))) → new ≡ old ++ node ∷ []
    → All (IsServing named) old → IsServing named node → All (IsServing named) new
one_more named old new node pushed all one =
    subst (λ nodes. All (IsServing named) nodes) (sym pushed)
    (All-push (IsServing named) old node all one)
