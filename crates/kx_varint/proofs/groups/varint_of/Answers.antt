use Rattle.std.proofs.Common.{rules}
use Rattle.kx_varint.proofs.groups.varint_of.Goals as goal

pub returns-else-bits-eq0 : goal.returns-else-bits-eq0
returns-else-bits-eq0 c = search rules
