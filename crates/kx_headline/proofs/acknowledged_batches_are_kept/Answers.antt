use Rattle.kx_headline.proofs.Acknowledged.{acknowledged_is_kept}
use Rattle.kx_headline.proofs.acknowledged_batches_are_kept.Goals as goal

pub returns : goal.returns
returns c = acknowledged_is_kept
