use Rattle.std.proofs.Common.{All, take}
use Rattle.kx_varint.specs.Text.{IsBytes}
use Rattle.kx_machine.proofs.fits.list_fits.Given as goal

-- those so far are bytes
abbrev pub invariant-loop-value : goal.invariant-loop-value
invariant-loop-value l = All IsBytes (take l.value-index l.values)
