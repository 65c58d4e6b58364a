-- The numbers of the faults of frames.
use Rattle.std.specs.Prelude.{ℕ}
use Rattle.kx_wire.specs.declared.fault.FrameFault.{FrameFault}
use Rattle.kx_wire.specs.declared.fault.FrameFault.TheVariants as fault

abbrev pub number_of : FrameFault → ℕ
number_of fault.TooLong = 1
number_of fault.Kind = 2
number_of fault.Field = 3
number_of fault.Failed = 4
number_of fault.Memory = 5
