-- What the machine inside takes as its store allows, the machine of any kind takes as its own does.
-- A client has no store, so that what it takes it takes whatever a store may do.
use Rattle.std.proofs.Common.{◌≡◌, ℕ, Option, Result, Ok, Err, MatchResult, subst, sym}
use Rattle.kx_machines.specs.Any.{any_allows, any_stands}
use Rattle.kx_machines.specs.Brokers.{broker_allows, broker_stands}
use Rattle.kx_machines.specs.declared.any.AnyMachine.{AnyMachine}
use Rattle.kx_machines.specs.declared.any.AnyMachine.TheVariants.{Broker, Client}
use Rattle.kx_machines.specs.declared.broker.BrokerMachine.{BrokerMachine}
use Rattle.kx_client_node.specs.Clients.{any_store, state_of}
use Rattle.kx_client_node.specs.declared.any_client.AnyClient.{AnyClient}
use Rattle.kx_machine.specs.Meaning.{IsTaken, NodeState, entry_bytes}
use Rattle.kx_machine.specs.declared.taken.Taken.{Taken}
use Rattle.kx_model.specs.Disk.{Store}
use Rattle.kx_model.specs.Step.{Input}
use Rattle.kx_system.specs.Processor.{Images}

module _ {S F : Type 0} (machine : AnyMachine S F) (before after : AnyClient F)
    (is : machine ≡ Client before) (image_of : F → Images) (state : NodeState) (input : Input)
  where
    -- the client inside answers so, and the machine does
    abbrev Took : (Option ℕ → Store → Type 0) → {E : Type 0} → Result Taken E → Type 0
    Took allows answer = MatchResult answer
        (IsTaken state input allows (λ s. s ≡ state_of image_of after))
        (λ refused. state ≡ state_of image_of after)

    by_answer : {E : Type 0} (answer : Result Taken E) → Took any_store answer
        → Took (any_allows machine) answer
    by_answer (Ok taken) took = record {
      store = took.store;
      allowed = subst (λ (m : AnyMachine S F). any_allows m (entry_bytes state input) took.store)
          (sym is) tt;
      stands = took.stands;
      answer = took.answer;
    }
    by_answer (Err refused) lost = lost

    pub takes_so : {E : Type 0} (answer : Result Taken E)
        → (state ≡ state_of image_of before → Took any_store answer)
        → any_stands image_of state machine → Took (any_allows machine) answer
    takes_so answer takes stands =
        by_answer answer (takes (subst (any_stands image_of state) is stands))

module _ {S F : Type 0} (machine : AnyMachine S F) (before after : BrokerMachine S)
    (is : machine ≡ Broker before) (image_of : F → Images) (state : NodeState) (input : Input)
  where
    -- the broker's machine inside answers so, and the machine does
    abbrev Did : (Option ℕ → Store → Type 0) → {E : Type 0} → Result Taken E → Type 0
    Did allows answer = MatchResult answer
        (IsTaken state input allows (λ s. broker_stands s after))
        (λ refused. broker_stands state after)

    pub broker_takes_so : {E : Type 0} (answer : Result Taken E)
        → (broker_stands state before → Did (broker_allows before) answer)
        → any_stands image_of state machine → Did (any_allows machine) answer
    broker_takes_so answer takes stands =
        subst (λ (m : AnyMachine S F). Did (any_allows m) answer) (sym is)
        (takes (subst (any_stands image_of state) is stands))
