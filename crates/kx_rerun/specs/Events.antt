-- What events mean whose stores keep all of an entry or nothing, and to which system they lead.
use Rattle.std.specs.Prelude.{◌≡◌, ◌≤◌, ◌⊎◌, List, All, map, nat_le}
use Rattle.kx_batch.specs.Batch.{batch_limit}
use Rattle.kx_core.specs.declared.event.Event as happening
use Rattle.kx_core.specs.declared.event.Event.TheVariants as event
use Rattle.kx_machine.specs.Meaning.{input_of}
use Rattle.kx_machine.specs.declared.machine.StoreMode.{StoreMode}
use Rattle.kx_machine.specs.declared.machine.StoreMode.TheVariants as mode
use Rattle.kx_message.specs.Ranges.{data_partitions}
use Rattle.kx_model.specs.Disk.{Store, Works, Fails, CannotLoad}
use Rattle.kx_model.specs.World.{Make, Deliver, Hand}
use Rattle.kx_pipeline.specs.OpenSystems.{Arrives, Inside, IsOpenSystemSchedule, OpenSystemEvent}
use Rattle.kx_pipeline.specs.OpenSystems.{run_open_system}
use Rattle.kx_system.specs.Processor.{Images}
use Rattle.kx_system.specs.System.{MakeProcessor, Happens, System, start_system}

-- an append that fails leaves nothing, or as much as any entry has
abbrev pub IsSureMode : StoreMode → Type 0
IsSureMode (mode.Fails keep) = (keep ≡ 0) ⊎ (batch_limit ≤ keep)
IsSureMode other = Unit {0}

abbrev pub IsSure : {F : Type 0} → happening.Event F → Type 0
IsSure (event.Deliver number to mode) = IsSureMode mode
IsSure (event.Hand to input mode) = IsSureMode mode
IsSure other = Unit {0}

-- what such a store does
abbrev pub store_of : StoreMode → Store
store_of mode.Works = Works
store_of (mode.Fails keep) = Fails (nat_le batch_limit keep)
store_of mode.CannotLoad = CannotLoad

-- the event of the definitions
abbrev pub meaning : {F : Type 0} → (F → Images) → happening.Event F → OpenSystemEvent
meaning image_of (event.Make client txn timeout) = Inside (Happens (Make client txn timeout))
meaning image_of (event.MakeProcessor client txn timeout group inputs process) =
    Inside (MakeProcessor client txn timeout group inputs (image_of process))
meaning image_of (event.Deliver number to mode) =
    Inside (Happens (Deliver number to (store_of mode)))
meaning image_of (event.Hand to input mode) =
    Inside (Happens (Hand to (input_of input) (store_of mode)))
meaning image_of (event.Arrive request) = Arrives request

-- they are a schedule, which leads from all data partitions, with nothing in them, to this system
pub record LeadTo {F : Type 0} (image_of : F → Images) (events : List (happening.Event F))
    (s : System) : Type 0 where
  pub sure : All IsSure events
  pub is_schedule : IsOpenSystemSchedule (map (meaning image_of) events)
  pub is_run : s
      ≡ run_open_system (map (meaning image_of) events) (start_system data_partitions)
