use Rattle.kx_headline.proofs.OverSchedules.{open_is_owed_open}
use Rattle.kx_headline.proofs.open_transactions_are_owed_markers_whoever_asks.Goals as goal

pub returns : goal.returns
returns c = open_is_owed_open
