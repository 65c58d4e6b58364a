use Rattle.std.proofs.Common.{rules}
use Rattle.kx_producer.proofs.producers.Producers.marked_by.Goals as goal

pub returns : goal.returns
returns c = search rules
