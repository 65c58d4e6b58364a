use Rattle.std.proofs.Common.{take}
use Rattle.std.specs.Prelude.{IsTrue}
use Rattle.kx_gateway.specs.TableFile.{lacks}
use Rattle.kx_gateway.proofs.table_file.split_at_byte.Given as goal

abbrev pub invariant-loop-at : goal.invariant-loop-at
invariant-loop-at l = IsTrue (lacks l.byte (take l.at l.text))
