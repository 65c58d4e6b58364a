-- A step that a node takes is an event of the system: a message comes by its number.
use Rattle.std.proofs.Common.{◌≡◌, ℕ, List, Option, Some, None, refl, ap, ◌∙◌}
use Rattle.std.proofs.Common.{Contains}
use Rattle.std.specs.Prelude.{slice_get}
use Rattle.std.proofs.lemmas.Option.{slice_get-get_or}
use Rattle.kx_audit.specs.Joined.{WasHandedOut}
use Rattle.kx_audit.specs.Schedule.{IsEventOf}
use Rattle.kx_machine.specs.Meaning.{input_of}
use Rattle.kx_machine.specs.declared.input.Input.{Input}
use Rattle.kx_machine.specs.declared.input.Input.TheVariants as input
use Rattle.kx_message.specs.declared.message.Message.{Message}
use Rattle.kx_message.specs.declared.message.NodeId.{NodeId}
use Rattle.kx_model.specs.Disk.{Store}
use Rattle.kx_model.specs.Step as model
use Rattle.kx_model.specs.World.{Deliver, Event, Hand, IsInput, Stepped, delivered, handed, step}
use Rattle.kx_system.specs.Processor.{processor_step}
use Rattle.kx_system.specs.System.{Happens, IsSystemEvent, System, SystemEvent, SystemStepped, Turn}
use Rattle.kx_system.specs.System.{happens, system_step, turn_at, turn_delivered, with_processor}

-- a system after a step of its world, which may have been a processor's turn
abbrev pub after_turn : System → Stepped → Option Turn → SystemStepped
after_turn s stepped None = (record s { world = stepped.0 }, stepped.1)
after_turn s stepped (Some turn) =
    let after = processor_step turn.processor turn.input in
    (with_processor s after.state after.messages, after.note)

-- a node of a system is handed an input
abbrev pub handed_in : System → NodeId → Store → model.Input → SystemStepped
handed_in s to store input = after_turn s (handed s.world to store input) (turn_at s to input)

-- the step is an event, in which the node is handed the input
pub record IsHanded (s : System) (to : NodeId) (store : Store) (given : Input) : Type 0 where
  pub event : SystemEvent
  pub fits : IsSystemEvent event
  pub is : IsEventOf s.world.sent to given store event
  pub steps : system_step s event ≡ handed_in s to store (input_of given)

pub in_turn : (s : System) (event : Event) (turn : Option Turn)
    → happens s event turn ≡ after_turn s (step s.world event) turn
in_turn s event None = refl
in_turn s event (Some turn) = refl

-- what is contained has a number
pub number_of : {A : Type 0} (xs : List A) (x : A) → Contains xs x
    → (k : ℕ) × (slice_get xs k ≡ Some x)
number_of xs x c = (c.0, slice_get-get_or xs c.0 x c.1 ∙ ap Some c.2)

module _ (s : System) (to : NodeId) (store : Store) where
  pub by_delivery : (which : ℕ) → system_step s (Happens (Deliver which to store))
      ≡ after_turn s (delivered s.world to store (slice_get s.world.sent which))
      (turn_delivered s to (slice_get s.world.sent which))
  unfolding system_step step
  by_delivery which =
      in_turn s (Deliver which to store) (turn_delivered s to (slice_get s.world.sent which))

  delivers : (m : Message) (which : ℕ) → slice_get s.world.sent which ≡ Some m
      → IsHanded s to store (input.Deliver m)
  delivers m which there = record {
    event = Happens (Deliver which to store);
    fits = tt;
    is = (which, there, refl);
    steps = by_delivery which
        ∙ ap (λ o. after_turn s (delivered s.world to store o) (turn_delivered s to o)) there;
  }

  -- whatever a node is handed, if a message then one that was handed out
  pub hands : (given : Input) → IsInput (input_of given) → WasHandedOut s.world.sent given
      → IsHanded s to store given
  unfolding system_step step
  hands (input.Deliver m) fits was =
      let at = number_of s.world.sent m was in delivers m at.0 at.1
  hands (input.Command command) fits was = record {
    event = Happens (Hand to (input_of (input.Command command)) store);
    fits = fits;
    is = refl;
    steps = in_turn s (Hand to (input_of (input.Command command)) store)
        (turn_at s to (input_of (input.Command command)));
  }
  hands (input.Expire now) fits was = record {
    event = Happens (Hand to (input_of (input.Expire now)) store);
    fits = fits;
    is = refl;
    steps = in_turn s (Hand to (input_of (input.Expire now)) store)
        (turn_at s to (input_of (input.Expire now)));
  }
  hands input.Remind fits was = record {
    event = Happens (Hand to (input_of input.Remind) store);
    fits = fits;
    is = refl;
    steps = in_turn s (Hand to (input_of input.Remind) store)
        (turn_at s to (input_of input.Remind));
  }
  hands (input.Drop group member) fits was = record {
    event = Happens (Hand to (input_of (input.Drop group member)) store);
    fits = fits;
    is = refl;
    steps = in_turn s (Hand to (input_of (input.Drop group member)) store)
        (turn_at s to (input_of (input.Drop group member)));
  }
  hands (input.Put values) fits was = record {
    event = Happens (Hand to (input_of (input.Put values)) store);
    fits = fits;
    is = refl;
    steps = in_turn s (Hand to (input_of (input.Put values)) store)
        (turn_at s to (input_of (input.Put values)));
  }
  hands (input.Restart now) fits was = record {
    event = Happens (Hand to (input_of (input.Restart now)) store);
    fits = fits;
    is = refl;
    steps = in_turn s (Hand to (input_of (input.Restart now)) store)
        (turn_at s to (input_of (input.Restart now)));
  }
