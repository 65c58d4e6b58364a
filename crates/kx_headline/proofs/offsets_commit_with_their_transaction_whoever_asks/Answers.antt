use Rattle.kx_headline.proofs.OverSchedules.{offsets_follow_open}
use Rattle.kx_headline.proofs.offsets_commit_with_their_transaction_whoever_asks.Goals as goal

pub returns : goal.returns
returns c = offsets_follow_open
