use Rattle.kx_headline.proofs.OverSchedules.{open_is_owed}
use Rattle.kx_headline.proofs.open_transactions_are_owed_markers.Goals as goal

pub returns : goal.returns
returns c = open_is_owed
