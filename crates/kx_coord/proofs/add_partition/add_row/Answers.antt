use Rattle.std.proofs.Common.{rules}
use Rattle.kx_coord.proofs.add_partition.add_row.Goals as goal

pub returns-in-Empty : goal.returns-in-Empty
returns-in-Empty c = search rules
