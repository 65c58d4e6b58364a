use Rattle.std.proofs.Common.{arith}
use Rattle.std.proofs.lemmas.Grind.{common_steps}
use Rattle.kx_wire.proofs.writing.put_aborted.Goals as goal

pub loop-txn-preserved : goal.loop-txn-preserved
loop-txn-preserved c = grind (arith, common_steps)
