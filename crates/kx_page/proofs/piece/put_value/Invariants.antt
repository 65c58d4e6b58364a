use Rattle.std.proofs.Common.{◌≡◌, ◌++◌, take}
use Rattle.kx_page.specs.Pieces.{escaped}
use Rattle.kx_page.proofs.piece.put_value.Given as goal

abbrev pub invariant-loop-byte : goal.invariant-loop-byte
invariant-loop-byte l = l.out.items ≡ l.fn.out.items ++ escaped (take l.byte-index l.value)
