use Rattle.std.proofs.Common.{◌≡◌, ◌*◌, take}
use Rattle.kx_text.specs.Dump.{hex_of}
use Rattle.kx_text.proofs.dump.put_digits.Given as goal

abbrev pub invariant-loop-i : goal.invariant-loop-i
invariant-loop-i l = take (2 * l.i) l.buffer ≡ hex_of (take l.i l.part)
