-- The numbers of a stream's faults.
use Rattle.std.specs.Prelude.{ℕ}
use Rattle.kx_stream.specs.declared.fault.StreamFault.{StreamFault}
use Rattle.kx_stream.specs.declared.fault.StreamFault.TheVariants.{Read, Write, Frame}

abbrev pub number_of : StreamFault → ℕ
number_of Read = 1
number_of Write = 2
number_of (Frame fault) = 3
