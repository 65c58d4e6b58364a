-- The clients of a system.
use Rattle.std.specs.Prelude.{◌≡◌, ◌<◌, ◌==◌, ℕ, List, [], ◌∷◌, map, find, Option, None}
use Rattle.std.specs.Prelude.{Some, if◌then◌else◌}
use Rattle.std.specs.List.{flat_map}
use Rattle.kx_client_node.specs.Clients.{any_store, client_of, processing_in}
use Rattle.kx_client_node.specs.declared.any_client.AnyClient.{AnyClient}
use Rattle.kx_machine.specs.Meaning.{NodeState, AtClient, AtCoordinator, AtPartition, AtProcessor}
use Rattle.kx_machine.specs.Meaning.{IsTaken}
use Rattle.kx_machine.specs.declared.taken.Taken.{Taken}
use Rattle.kx_model.specs.Client.{Client}
use Rattle.kx_model.specs.Step.{Input}
use Rattle.kx_system.specs.Processor.{Images, Processing}
use Rattle.kx_system.specs.System.{with_processing}

abbrev pub clients_in : {F : Type 0} → List (AnyClient F) → List Client
clients_in all = map client_of all

abbrev pub processors_in : {F : Type 0} → (F → Images) → List (AnyClient F) → List Processing
processors_in image_of all = flat_map (processing_in image_of) all

-- the clients of a system, and what the processors among them are beside
pub record AllClients : Type 0 where
  pub clients : List Client
  pub processors : List Processing

abbrev pub all_of : {F : Type 0} → (F → Images) → List (AnyClient F) → AllClients
all_of image_of all =
    record { clients = clients_in all; processors = processors_in image_of all }

-- numbers rise, from above this one
abbrev pub AreAbove : ℕ → List ℕ → Type 0
AreAbove low [] = Unit {0}
AreAbove low (number ∷ numbers) = (low < number) × AreAbove number numbers

abbrev pub AreRising : List ℕ → Type 0
AreRising [] = Unit {0}
AreRising (number ∷ numbers) = AreAbove number numbers

abbrev pub client_in : List Client → ℕ → Option Client
client_in clients number = find (λ c. c.number == number) clients

abbrev pub processor_in : List Processing → ℕ → Option Processing
processor_in processors number = find (λ p. p.number == number) processors

abbrev pub node_with : Option Client → Option Processing → Option NodeState
node_with None processing = None
node_with (Some client) None = Some (AtClient client)
node_with (Some client) (Some processing) =
    Some (AtProcessor (record { client = client; processing = processing }))

-- the client of a number as a node
abbrev pub node_at : AllClients → ℕ → Option NodeState
node_at all number =
    node_with (client_in all.clients number) (processor_in all.processors number)

-- with this client in the place of the one of its number
abbrev pub with_one : List Client → Client → List Client
with_one clients c = map (λ d. if d.number == c.number then c else d) clients

abbrev pub with_node : AllClients → NodeState → AllClients
with_node all (AtClient client) = record all { clients = with_one all.clients client }
with_node all (AtProcessor p) = record {
  clients = with_one all.clients p.client;
  processors = with_processing all.processors p.processing;
}
with_node all (AtCoordinator coordinator) = all
with_node all (AtPartition number partition) = all

-- the client took the input
pub record TakesOne (old new : AllClients) (state : NodeState) (input : Input) (taken : Taken)
    : Type 0 where
  pub after : NodeState
  pub takes : IsTaken state input any_store (λ s. s ≡ after) taken
  pub new_is : new ≡ with_node old after

-- what comes of an input for the client of a number, if there is one
abbrev pub TakesBy : AllClients → AllClients → Input → Option NodeState → Option Taken → Type 0
TakesBy old new input None None = new ≡ old
TakesBy old new input None (Some taken) = ⊥
TakesBy old new input (Some state) None = ⊥
TakesBy old new input (Some state) (Some taken) = TakesOne old new state input taken

abbrev pub TakesAt : AllClients → AllClients → ℕ → Input → Option Taken → Type 0
TakesAt old new number input taken = TakesBy old new input (node_at old number) taken
