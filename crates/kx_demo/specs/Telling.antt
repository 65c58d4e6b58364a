-- What a demonstration prints.
use Rattle.std.specs.Prelude.{◌≢◌, ◌++◌, ℕ, List, Bool, true, false, Option, Result, Ok, Err, codes}
use Rattle.std.specs.Fmt.{decimal}
use Rattle.std.specs.Io.KnownBytes.{Appends}
use Rattle.kx_audit.specs.Making.{Trail}
use Rattle.kx_audit.specs.Refused.{IsRefused, fault_number}
use Rattle.kx_audit.specs.Run.{IsYes, Ran}
use Rattle.kx_audit.specs.declared.fault.AuditFault.{AuditFault}
use Rattle.kx_cluster.specs.Any.{any_making, any_state}
use Rattle.kx_machines.specs.Any.{any_stands}
use Rattle.kx_machines.specs.declared.any.AnyMachine.{AnyMachine}
use Rattle.kx_cluster.specs.declared.making.AnyMaking.{AnyMaking}
use Rattle.kx_demo.specs.Counting.{AreCounts}
use Rattle.kx_demo.specs.declared.counting.Counts.{Counts}
use Rattle.kx_demo.specs.declared.fault.DemoFault.{DemoFault}
use Rattle.kx_demo.specs.declared.fault.DemoFault.TheVariants as fault
use Rattle.kx_log.specs.Store.{StoreState}
use Rattle.kx_nodes.specs.declared.receipt.Receipt.{Receipt}
use Rattle.kx_processor.specs.Prefixed.{images_of}
use Rattle.kx_processor.specs.declared.prefixed.Prefixed.{Prefixed}
use Rattle.kx_system.specs.System.{System}

-- a word, and a number behind it
abbrev pub line : List ℕ → ℕ → List ℕ
line words number = words ++ codes " " ++ decimal number ++ codes "\n"

-- what was counted, and that the audit said yes
abbrev pub yes_text : Counts → List ℕ
yes_text counts =
    line (codes "inputs") counts.inputs ++ line (codes "outputs") counts.outputs
    ++ line (codes "doubles") counts.doubles ++ codes "audit yes\n"

-- what was counted in this run is printed
pub record TellsCounts (run : Ran (AnyMaking Prefixed) (AnyMachine StoreState Prefixed))
    (old new : Option (List ℕ)) : Type 0 where
  pub counts : Counts
  pub counted : AreCounts (any_state images_of) run counts
  pub printed : Appends old new (yes_text counts)

-- a run that keeps the promises of the definitions: its steps, which are those that had receipts,
-- are a schedule of a whole system
pub record IsAudited (run : Ran (AnyMaking Prefixed) (AnyMachine StoreState Prefixed)) :
    Type 0 where
  pub receipts : List Receipt
  pub system : System
  pub yes : IsYes (any_making images_of) (any_stands images_of) run receipts system

-- what is printed of a demonstration that ended so
pub data Tells (old new : Option (List ℕ)) : Result Bool DemoFault → Type 0 where
  SaysYes : (run : Ran (AnyMaking Prefixed) (AnyMachine StoreState Prefixed)) → IsAudited run
      → TellsCounts run old new → Tells old new (Ok true)
  SaysNo : (trails : List Trail) (receipts : List Receipt) (why : AuditFault)
      → IsRefused trails receipts why → Appends old new (line (codes "audit no") (fault_number why))
      → Tells old new (Ok false)
  GaveUp : Appends old new (codes "gave up\n") → Tells old new (Err fault.GaveUp)
  Fails : (why : DemoFault) → why ≢ fault.GaveUp → Tells old new (Err why)
