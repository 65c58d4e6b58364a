use Rattle.std.proofs.Common.{rules}
use Rattle.kx_producer.proofs.producers.Producers.epoch.Goals as goal

pub returns : goal.returns
returns c = search rules
