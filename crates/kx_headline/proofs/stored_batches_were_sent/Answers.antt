use Rattle.kx_headline.proofs.Acknowledged.{stored_were_sent}
use Rattle.kx_headline.proofs.stored_batches_were_sent.Goals as goal

pub returns : goal.returns
returns c = stored_were_sent
