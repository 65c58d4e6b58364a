use Rattle.std.proofs.Common.{arith, sym}
use Rattle.std.proofs.lemmas.List.{take_all}
use Rattle.kx_notices.proofs.said.front_of.Goals as goal

pub returns-else-bytes-gt-LONGEST_SAID : goal.returns-else-bytes-gt-LONGEST_SAID
returns-else-bytes-gt-LONGEST_SAID c = sym (take_all 256 c.args.bytes.now (omega arith))
