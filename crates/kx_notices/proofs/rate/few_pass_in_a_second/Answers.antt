use Rattle.kx_notices.proofs.Counting.{few}
use Rattle.kx_notices.proofs.rate.few_pass_in_a_second.Goals as goal

pub returns : goal.returns
returns c = few
