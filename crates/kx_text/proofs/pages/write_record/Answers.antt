use Rattle.std.proofs.Common.{rules}
use Rattle.kx_text.proofs.pages.write_record.Goals as goal

pub returns : goal.returns
returns g c = search rules
