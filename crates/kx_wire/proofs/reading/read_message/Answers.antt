use Rattle.std.proofs.Common.{rules}
use Rattle.kx_wire.proofs.reading.read_message.Goals as goal

pub returns-clause-memory : goal.returns-clause-memory
returns-clause-memory c = search rules
