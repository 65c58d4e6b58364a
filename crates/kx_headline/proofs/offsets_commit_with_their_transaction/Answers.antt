use Rattle.kx_headline.proofs.OverSchedules.{offsets_with_their_transaction}
use Rattle.kx_headline.proofs.offsets_commit_with_their_transaction.Goals as goal

pub returns : goal.returns
returns c = offsets_with_their_transaction
