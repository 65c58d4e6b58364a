-- The numbers of the faults of a transaction that can't begin.
use Rattle.std.specs.Prelude.{ℕ}
use Rattle.kx_open.specs.declared.fault.BeginFault.{BeginFault}
use Rattle.kx_open.specs.declared.fault.BeginFault.TheVariants as fault

abbrev pub number_of : BeginFault → ℕ
number_of fault.Full = 1
number_of fault.Memory = 2
