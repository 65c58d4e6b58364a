-- The numbers of the faults of numbers as bytes spell them.
use Rattle.std.specs.Prelude.{ℕ}
use Rattle.kx_varint.specs.declared.fault.VarFault.{VarFault}
use Rattle.kx_varint.specs.declared.fault.VarFault.TheVariants as fault

abbrev pub number_of : VarFault → ℕ
number_of fault.Short = 1
number_of fault.TooLong = 2
