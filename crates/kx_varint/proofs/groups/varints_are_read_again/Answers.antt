use Rattle.kx_varint.proofs.Laws.{value_again}
use Rattle.kx_varint.proofs.groups.varints_are_read_again.Goals as goal

pub returns : goal.returns
returns c = value_again
