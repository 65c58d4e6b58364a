use Rattle.std.proofs.Common.{arith, lit<}
use Rattle.kx_varint.specs.Varint.{varint}
use Rattle.kx_varint.proofs.Laws.{reads}
use Rattle.kx_varint.proofs.groups.read_varint.Goals as goal

pub returns : goal.returns
returns c = reads varint c.args.bytes.now c.varint_of.result (lit< tt) (lit< tt)
    (λ i. omega (arith, c.type_inv.bytes i)) c.varint_of.ensures
