use Rattle.std.proofs.Common.{rules}
use Rattle.kx_message.proofs.message.Message.fits.Goals as goal

pub fields_len-requires : goal.fields_len-requires
fields_len-requires c = search rules
