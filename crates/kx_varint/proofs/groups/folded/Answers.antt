use Rattle.std.proofs.Common.{rules}
use Rattle.kx_varint.proofs.groups.folded.Goals as goal

pub returns-else-n-lt0 : goal.returns-else-n-lt0
returns-else-n-lt0 c = search rules
