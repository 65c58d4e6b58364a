-- What a client as a machine answers, and the node that it is.
use Rattle.std.specs.Prelude.{◌≡◌, ◌⊎◌, ◌&&◌, ℕ, Bool, List, [], ◌∷◌, Option, is_none}
use Rattle.std.specs.Prelude.{if◌then◌else◌}
use Rattle.kx_client.specs.Calls.{HandsOut}
use Rattle.kx_client.specs.declared.fault.ClientFault.{ClientFault}
use Rattle.kx_client.specs.declared.fault.ClientFault.TheVariants.{Failed, Memory, NotReady}
use Rattle.kx_client.specs.declared.fault.ClientFault.TheVariants.{NotTransactional}
use Rattle.kx_client_node.specs.declared.any_client.AnyClient.{AnyClient}
use Rattle.kx_client_node.specs.declared.any_client.AnyClient.TheVariants as any
use Rattle.kx_machine.specs.Meaning.{NodeState, AtClient, AtProcessor, fault_of}
use Rattle.kx_model.specs.Client.{Client, Commanded, Declines, Fault}
use Rattle.kx_model.specs.Disk.{Store}
use Rattle.kx_processor.specs.Running.{processing_of, processor_of}
use Rattle.kx_system.specs.Processor.{Images, Processing, Processor, has_failed}

-- the fault is the one that the rules have; memory is lacking only if they have none, and something
-- is sent
abbrev pub IsDeclined : ClientFault → Commanded → Type 0
IsDeclined fault answer = ((fault ≡ Memory) × HandsOut answer)
    ⊎ ((refusal : Fault) × (answer ≡ Declines refusal) × (fault ≡ fault_of refusal))

-- a client has no store
abbrev pub any_store : Option ℕ → Store → Type 0
any_store size store = Unit {0}

abbrev pub client_of : {F : Type 0} → AnyClient F → Client
client_of (any.Plain client) = client
client_of (any.Processor running) = running.client

-- what it is beside its client, if it is a processor
abbrev pub processing_in : {F : Type 0} → (F → Images) → AnyClient F → List Processing
processing_in image_of (any.Plain client) = []
processing_in image_of (any.Processor running) = processing_of image_of running ∷ []

-- the node that it is
abbrev pub state_of : {F : Type 0} → (F → Images) → AnyClient F → NodeState
state_of image_of (any.Plain client) = AtClient client
state_of image_of (any.Processor running) = AtProcessor (processor_of image_of running)

-- the first refusal that fits a command of another kind of client, which may be one of transactions
abbrev pub foreign_fault : Processor → Bool → ClientFault
foreign_fault p of_transactions =
    if has_failed p then Failed
    else if of_transactions && is_none p.client.txn then NotTransactional else NotReady
