use Rattle.std.proofs.Common.{◌≡◌, ◌++◌, take}
use Rattle.kx_notices.specs.Texts.{escaped}
use Rattle.kx_notices.proofs.text.put_escaped.Given as goal

abbrev pub invariant-loop-byte : goal.invariant-loop-byte
invariant-loop-byte l = l.out.items ≡ l.fn.out.items ++ escaped (take l.byte-index l.bytes)
