-- What receipts of joined traces say of the schedule that these are.
use Rattle.std.specs.Prelude.{◌≡◌, ℕ, List, ◌∷◌, ◌++◌, filter, length, slice_get, Some}
use Rattle.kx_audit.specs.Making.{NodeMaking}
use Rattle.kx_audit.specs.Nodes.{same_node}
use Rattle.kx_audit.specs.Replayed.{IsOfLine, Progress}
use Rattle.kx_audit.specs.Schedule.{IsEventOf}
use Rattle.kx_audit.specs.Told.{Told, told_at}
use Rattle.kx_machine.specs.Meaning.{note_of}
use Rattle.kx_message.specs.declared.message.NodeId.{NodeId}
use Rattle.kx_message.specs.declared.message.NodeId.TheVariants as node
use Rattle.kx_model.specs.Disk.{Store}
use Rattle.kx_model.specs.World as world
use Rattle.kx_model.specs.World.{Deliver, Hand, Make}
use Rattle.kx_nodes.specs.declared.receipt.Receipt.{Receipt}
use Rattle.kx_system.specs.System.{Happens, MakeProcessor, System, SystemEvent, run_system}
use Rattle.kx_system.specs.System.{system_step}

-- the receipt is of this step, the one at its place among those of its node
pub record IsOfStep (told : List Told) (receipt : Receipt) (x : Told) : Type 0 where
  pub there : slice_get (told_at receipt.node told) receipt.place ≡ Some x
  pub input_is : receipt.input ≡ x.step.input
  pub taken_is : receipt.taken ≡ x.taken

-- each receipt is of a step
abbrev pub AreOfSteps : List Told → List Receipt → Type 0
AreOfSteps told receipts = (j : ℕ) (receipt : Receipt) → slice_get receipts j ≡ Some receipt
    → (x : Told) × IsOfStep told receipt x

-- no two are of one step
abbrev pub AreDistinct : List Receipt → Type 0
AreDistinct receipts = (j k : ℕ) (one other : Receipt) → slice_get receipts j ≡ Some one
    → slice_get receipts k ≡ Some other → one.node ≡ other.node → one.place ≡ other.place → j ≡ k

-- one for each step, with its input and its answer
pub record AreReceipts (told : List Told) (receipts : List Receipt) : Type 0 where
  pub count : length receipts ≡ length told
  pub of_steps : AreOfSteps told receipts
  pub distinct : AreDistinct receipts

------ receipts of traces that were run again

module _ {B M : Type 0} (making : B → NodeMaking) (nodes : List (Progress B M)) where
  -- the receipt is of a step of one of them
  pub record IsNamed (receipt : Receipt) : Type 0 where
    pub number : ℕ
    pub node : Progress B M
    pub step : Told
    pub there : slice_get nodes number ≡ Some node
    pub is : IsOfLine making node receipt step

  abbrev pub AreNamed : List Receipt → Type 0
  AreNamed receipts = (j : ℕ) (receipt : Receipt) → slice_get receipts j ≡ Some receipt
      → IsNamed receipt

  -- a receipt is of no step of them
  pub record HaveUnnamed (receipts : List Receipt) : Type 0 where
    pub number : ℕ
    pub receipt : Receipt
    pub there : slice_get receipts number ≡ Some receipt
    pub unnamed : IsNamed receipt → ⊥

------ the event of a receipt

-- the node at which an event is
abbrev pub place_in : world.Event → NodeId
place_in (Make client txn timeout) = node.Client client
place_in (Deliver which to store) = to
place_in (Hand to input store) = to

abbrev pub place_of : SystemEvent → NodeId
place_of (MakeProcessor client txn timeout group inputs image) = node.Client client
place_of (Happens event) = place_in event

abbrev pub events_at : NodeId → List SystemEvent → List SystemEvent
events_at name events = filter (λ event. same_node (place_of event) name) events

-- the node is handed the receipt's input, and answers what the receipt holds
pub record Answers (s : System) (event : SystemEvent) (receipt : Receipt) : Type 0 where
  pub store : Store
  pub is : IsEventOf s.world.sent receipt.node receipt.input store event
  pub sent : (system_step s event).0.world.sent ≡ s.world.sent ++ receipt.taken.messages
  pub note_is : receipt.taken.note ≡ note_of (system_step s event).1

-- so it does in the event at the receipt's place among those at the node
pub record IsAnswered (begin : System) (events : List SystemEvent) (receipt : Receipt)
    : Type 0 where
  pub before : List SystemEvent
  pub event : SystemEvent
  pub later : List SystemEvent
  pub events_are : events ≡ before ++ event ∷ later
  pub at_node : place_of event ≡ receipt.node
  pub place_is : receipt.place ≡ length (events_at receipt.node before)
  pub answers : Answers (run_system before begin) event receipt
