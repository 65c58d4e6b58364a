use Rattle.std.proofs.Common.{rules}
use Rattle.kx_open.proofs.open.OpenTxns.epoch_of.Goals as goal

pub returns : goal.returns
returns c = search rules
