use Rattle.std.proofs.Common.{rules}
use Rattle.kx_aborted.proofs.aborted.Aborted.new.Goals as goal

pub returns : goal.returns
returns c = search rules
