use Rattle.kx_headline.proofs.OverSchedules.{markers_agree}
use Rattle.kx_headline.proofs.markers_agree.Goals as goal

pub returns : goal.returns
returns c = markers_agree
