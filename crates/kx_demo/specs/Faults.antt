-- The faults of a demonstration, and their numbers.
use Rattle.std.specs.Prelude.{ℕ}
use Rattle.kx_demo.specs.declared.fault.DemoFault.{DemoFault}
use Rattle.kx_demo.specs.declared.fault.DemoFault.TheVariants as fault

abbrev pub fault_number : DemoFault → ℕ
fault_number fault.Net = 1
fault_number fault.Write = 2
fault_number fault.Trace = 2
fault_number fault.Page = 2
fault_number fault.Memory = 4
fault_number fault.GaveUp = 5
