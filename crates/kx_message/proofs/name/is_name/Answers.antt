use Rattle.std.proofs.Common.{rules}
use Rattle.kx_message.proofs.name.is_name.Goals as goal

pub returns-else-text-le-LONGEST : goal.returns-else-text-le-LONGEST
returns-else-text-le-LONGEST c = search rules
