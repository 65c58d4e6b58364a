use Rattle.std.proofs.Common.{All, take}
use Rattle.kx_message.specs.Message.{IsOffset}
use Rattle.kx_machine.proofs.fits.offsets_fit.Given as goal

-- those so far fit
abbrev pub invariant-loop-committed : goal.invariant-loop-committed
invariant-loop-committed l = All IsOffset (take l.committed-index l.offsets)
