use Rattle.std.proofs.Common.{arith, lit<}
use Rattle.kx_varint.specs.Varint.{varlong}
use Rattle.kx_varint.proofs.Laws.{reads}
use Rattle.kx_varint.proofs.groups.read_varlong.Goals as goal

pub returns : goal.returns
returns c = reads varlong c.args.bytes.now c.varlong_of.result (lit< tt) (lit< tt)
    (λ i. omega (arith, c.type_inv.bytes i)) c.varlong_of.ensures
