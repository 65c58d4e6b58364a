use Rattle.kx_headline.proofs.OneHolder.{one_holder}
use Rattle.kx_headline.proofs.ids_have_one_holder.Goals as goal

pub returns : goal.returns
returns c = one_holder
