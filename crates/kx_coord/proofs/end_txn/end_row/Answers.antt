use Rattle.std.proofs.Common.{rules}
use Rattle.kx_coord.proofs.end_txn.end_row.Goals as goal

pub returns-in-Prepare : goal.returns-in-Prepare
returns-in-Prepare c = search rules
