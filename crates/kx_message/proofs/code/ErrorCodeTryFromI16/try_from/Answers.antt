use Rattle.std.proofs.Common.{rules}
use Rattle.kx_message.proofs.code.ErrorCodeTryFromI16.try_from.Goals as goal

pub returns-in_default : goal.returns-in_default
returns-in_default c = search rules
