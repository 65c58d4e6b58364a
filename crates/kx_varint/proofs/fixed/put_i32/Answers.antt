use Rattle.std.proofs.Common.{rules}
use Rattle.kx_varint.proofs.fixed.put_i32.Goals as goal

pub returns-clause-err : goal.returns-clause-err
returns-clause-err c = search rules
