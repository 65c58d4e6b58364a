-- A running world under a script, the session of the definitions for which it stands, and the
-- events that are read of lines.
use Rattle.std.specs.Prelude.{◌≡◌, Option, None, Some, IsSome, Result, Ok, Err}
use Rattle.std.specs.declared.alloc.AllocError.{AllocError}
use Rattle.kx_core.specs.Local.{IsLocal}
use Rattle.kx_core.specs.World.{IsEvent, place_of}
use Rattle.kx_pipeline.specs.OpenSystems.{Inside, OpenSystemEvent}
use Rattle.kx_processor.specs.Prefixed.{images_of}
use Rattle.kx_script.specs.Script.{State}
use Rattle.kx_script.specs.Session.{Session}
use Rattle.kx_script.specs.declared.event.EventAt.{EventAt}
use Rattle.kx_script.specs.declared.world.Running.{Running}
use Rattle.kx_system.specs.System.{System, SystemEvent}

abbrev pub StandsFor : Running → Session → Type 0
StandsFor running s = IsLocal images_of running.world s.system × (running.marks ≡ s.marks)

-- the same, once there is a world
abbrev pub StandsIn : Option Running → State → Type 0
StandsIn None None = Unit {0}
StandsIn None (Some s) = ⊥
StandsIn (Some running) None = ⊥
StandsIn (Some running) (Some s) = StandsFor running s

-- if it happens in the system, it is this event of the definitions, at its node
pub record Means (s : System) (read : EventAt) (event : SystemEvent) : Type 0 where
  pub place_is : read.place ≡ place_of event
  pub only : (happened : OpenSystemEvent) → IsEvent images_of s read.event happened
      → happened ≡ Inside event

-- what was read means the event that was wanted
pub record IsRead (s : System) (wanted : Option SystemEvent) (read : EventAt) : Type 0 where
  pub event : SystemEvent
  pub is : wanted ≡ Some event
  pub means : Means s read event

-- what is read of words that are this event, or none; or there is no memory for them
abbrev pub Reads : System → Option SystemEvent → Option (Result EventAt AllocError) → Type 0
Reads s wanted None = wanted ≡ None
Reads s wanted (Some (Ok read)) = IsRead s wanted read
Reads s wanted (Some (Err refused)) = IsSome wanted
