use Rattle.std.proofs.Common.{rules}
use Rattle.kx_open.proofs.open.OpenTxns.is_full.Goals as goal

pub returns : goal.returns
returns c = search rules
