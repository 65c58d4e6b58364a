use Rattle.std.proofs.Common.{rules}
use Rattle.kx_wire.proofs.fault.FrameFaultFromAllocError.from.Goals as goal

pub returns : goal.returns
returns c = search rules
