use Rattle.kx_headline.proofs.Acknowledged.{promises_kept_open}
use Rattle.kx_headline.proofs.open_promises_are_kept.Goals as goal

pub returns : goal.returns
returns c = promises_kept_open
