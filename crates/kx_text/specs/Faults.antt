-- The numbers of the faults with which a script or a dump ends.
use Rattle.std.specs.Prelude.{ℕ}
use Rattle.kx_text.specs.declared.fault.ScriptFault.{ScriptFault}
use Rattle.kx_text.specs.declared.fault.ScriptFault.TheVariants as script
use Rattle.kx_text.specs.declared.dump.DumpFault.{DumpFault}
use Rattle.kx_text.specs.declared.dump.DumpFault.TheVariants as dump

-- the number of a script's fault
abbrev pub script_fault_number : ScriptFault → ℕ
script_fault_number script.Read = 1
script_fault_number script.Write = 2
script_fault_number (script.BadLine line) = 3
script_fault_number script.Memory = 4

-- the number of a dump's fault
abbrev pub dump_fault_number : DumpFault → ℕ
dump_fault_number dump.Write = 1
dump_fault_number (dump.Batch place fault) = 2
dump_fault_number dump.Memory = 3
