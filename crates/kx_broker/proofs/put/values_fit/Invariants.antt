use Rattle.std.proofs.Common.{take}
use Rattle.std.specs.Prelude.{All}
use Rattle.kx_varint.specs.Text.{IsBytes}
use Rattle.kx_broker.proofs.put.values_fit.Given as goal

-- those so far
abbrev pub invariant-loop-value : goal.invariant-loop-value
invariant-loop-value l = All IsBytes (take l.value-index l.value-items)
