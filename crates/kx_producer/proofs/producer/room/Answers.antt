use Rattle.std.proofs.Common.{rules}
use Rattle.kx_producer.proofs.producer.room.Goals as goal

pub returns : goal.returns
returns c = search rules
