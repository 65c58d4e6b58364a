use Rattle.kx_coord.proofs.Following.{follows_none}
use Rattle.kx_coord.proofs.table.Table.new.Goals as goal

pub returns : goal.returns
returns c = follows_none c.new.result.entries c.new.ensures.empty
