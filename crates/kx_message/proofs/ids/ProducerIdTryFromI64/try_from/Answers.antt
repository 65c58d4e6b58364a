use Rattle.std.proofs.Common.{rules}
use Rattle.kx_message.proofs.ids.ProducerIdTryFromI64.try_from.Goals as goal

pub returns : goal.returns
returns c = search rules
