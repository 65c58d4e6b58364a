use Rattle.kx_headline.proofs.OverSchedules.{markers_agree_open}
use Rattle.kx_headline.proofs.markers_agree_whoever_asks.Goals as goal

pub returns : goal.returns
returns c = markers_agree_open
