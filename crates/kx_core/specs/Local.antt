-- A world whose nodes keep their logs in memory, and the system of the definitions for which it
-- stands.
use Rattle.std.specs.Prelude.{ℤ, ◌&&◌, List, filter, int_le, int_lt}
use Rattle.kx_broker.specs.Offsets.{StandsForGroups}
use Rattle.kx_broker.specs.Serving.{Serving, StandsFor}
use Rattle.kx_coord.specs.CoordinatorState.{CoordinatorState}
use Rattle.kx_coord_node.specs.Stands.{Stands}
use Rattle.kx_core.specs.World.{IsRun, Running}
use Rattle.kx_model.specs.Reading.{Shown}
use Rattle.kx_system.specs.Processor.{Images}
use Rattle.kx_system.specs.System.{System}

-- an open schedule led to the system, for which the running world stands
abbrev pub IsLocal : {F : Type 0} → (F → Images) → Running CoordinatorState Serving Serving F
    → System → Type 0
IsLocal image_of = IsRun Stands StandsFor StandsForGroups image_of

-- those of the records that are from one offset on and below another
abbrev pub between : ℤ → ℤ → List Shown → List Shown
between from next = filter (λ s. int_le from s.offset && int_lt s.offset next)
