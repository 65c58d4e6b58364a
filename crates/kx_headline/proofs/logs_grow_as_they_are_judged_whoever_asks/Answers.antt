use Rattle.kx_headline.proofs.OverSchedules.{logs_grow_open}
use Rattle.kx_headline.proofs.logs_grow_as_they_are_judged_whoever_asks.Goals as goal

pub returns : goal.returns
returns c = logs_grow_open
