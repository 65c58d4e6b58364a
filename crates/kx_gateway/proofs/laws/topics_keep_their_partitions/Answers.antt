use Rattle.kx_gateway.proofs.Shares.{at_apart, at_stays, at_within}
use Rattle.kx_gateway.proofs.laws.topics_keep_their_partitions.Goals as goal

pub returns-clause-stays : goal.returns-clause-stays
returns-clause-stays c = at_stays

pub returns-clause-within : goal.returns-clause-within
returns-clause-within c = at_within

pub returns-clause-apart : goal.returns-clause-apart
returns-clause-apart c = at_apart
