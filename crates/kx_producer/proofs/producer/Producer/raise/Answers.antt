use Rattle.std.proofs.Common.{rules}
use Rattle.kx_producer.proofs.producer.Producer.raise.Goals as goal

pub returns-else-lt : goal.returns-else-lt
returns-else-lt c = search rules
