use Rattle.std.proofs.Common.{rules}
use Rattle.kx_producer.proofs.producers.Producers.check.Goals as goal

pub returns-in-None : goal.returns-in-None
returns-in-None c = search rules
