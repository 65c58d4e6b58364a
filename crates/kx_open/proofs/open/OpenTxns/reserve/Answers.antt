use Rattle.std.proofs.Common.{rules}
use Rattle.kx_open.proofs.open.OpenTxns.reserve.Goals as goal

pub returns-clause-err : goal.returns-clause-err
returns-clause-err c = search rules
