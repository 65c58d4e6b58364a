use Rattle.kx_grant.proofs.Again.{never_again}
use Rattle.kx_grant.proofs.laws.a_batch_is_sent_in_one_transaction.Goals as goal

pub returns : goal.returns
returns c = never_again
