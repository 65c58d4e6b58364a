use Rattle.std.proofs.Common.{rules}
use Rattle.kx_varint.proofs.fixed.read_i64.Goals as goal

pub returns : goal.returns
returns c = search rules
