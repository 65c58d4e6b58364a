-- Systems whose clients nobody trusts: beside all that may happen, any request that a client may
-- send arrives from outside, at any time and with anything in its fields (KIP-98, "Data Flow";
-- KIP-447).
use Rattle.std.specs.Prelude.{◌≡◌, ℕ, true, List, [], ◌∷◌, ◌++◌, All}
use Rattle.kx_message.specs.Message.{IsMessage}
use Rattle.kx_message.specs.declared.message.Message.{Message}
use Rattle.kx_model.specs.Open.{IsOpenSchedule, OpenEvent, is_request, open_run}
use Rattle.kx_model.specs.Step.{Done}
use Rattle.kx_model.specs.World.{World, start}
use Rattle.kx_system.specs.System.{IsSystemEvent, System, SystemEvent, SystemStepped, system_step}

pub data OpenSystemEvent : Type 0 where
  Inside : (event : SystemEvent) → OpenSystemEvent
  -- a client's request arrives from outside
  Arrives : (request : Message) → OpenSystemEvent

-- it is one of the requests of clients, with each field in its range
abbrev pub IsOpenSystemEvent : OpenSystemEvent → Type 0
IsOpenSystemEvent (Inside event) = IsSystemEvent event
IsOpenSystemEvent (Arrives request) = (is_request request ≡ true) × IsMessage request

-- one more message was sent, and nothing else changes
abbrev pub with_request : System → Message → System
with_request s request = record s { world = record s.world { sent = s.world.sent ++ request ∷ [] } }

-- the system after an event, and the note of it
abbrev pub open_system_step : System → OpenSystemEvent → SystemStepped
open_system_step s (Inside event) = system_step s event
open_system_step s (Arrives request) = (with_request s request, Done)

-- a whole schedule
unfoldable pub run_open_system : List OpenSystemEvent → System → System
run_open_system [] s = s
run_open_system (event ∷ events) s = run_open_system events (open_system_step s event).0

abbrev pub IsOpenSystemSchedule : List OpenSystemEvent → Type 0
IsOpenSystemSchedule events = All IsOpenSystemEvent events

-- an open schedule of a world with so many partitions leads to this world
pub record IsLedTo (partitions : ℕ) (w : World) : Type 0 where
  pub events : List OpenEvent
  pub scheduled : IsOpenSchedule events
  pub leads : open_run events (start partitions) ≡ w
