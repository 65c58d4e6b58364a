use Rattle.kx_headline.proofs.ClientsKeep.{each_stands_once}
use Rattle.kx_headline.proofs.batches_stand_once.Goals as goal

pub returns : goal.returns
returns c = each_stands_once
