use Rattle.std.proofs.Common.{rules}
use Rattle.kx_message.proofs.message.Message.receiver.Goals as goal

pub returns-in-Produce : goal.returns-in-Produce
returns-in-Produce c = search rules
