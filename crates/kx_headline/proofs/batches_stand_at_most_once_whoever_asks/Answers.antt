use Rattle.kx_headline.proofs.OverSchedules.{at_most_once_open}
use Rattle.kx_headline.proofs.batches_stand_at_most_once_whoever_asks.Goals as goal

pub returns : goal.returns
returns c = at_most_once_open
