use Rattle.kx_headline.proofs.OverSchedules.{logs_grow}
use Rattle.kx_headline.proofs.logs_grow_as_they_are_judged.Goals as goal

pub returns : goal.returns
returns c = logs_grow
