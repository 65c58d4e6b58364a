use Rattle.std.proofs.Common.{arith}
use Rattle.kx_broker.proofs.produce.bytes_fit.Goals as goal

pub returns : goal.returns
returns c = λ i. omega (arith, c.type_inv.text i)
