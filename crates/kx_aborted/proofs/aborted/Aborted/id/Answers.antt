use Rattle.std.proofs.Common.{rules}
use Rattle.kx_aborted.proofs.aborted.Aborted.id.Goals as goal

pub returns : goal.returns
returns c = search rules
