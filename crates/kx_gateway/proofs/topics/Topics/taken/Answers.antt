use Rattle.std.proofs.Common.{arith, subst}
use Rattle.kx_gateway.specs.Topics.{IsTable}
use Rattle.kx_gateway.proofs.Tables.{table_room}
use Rattle.kx_gateway.proofs.topics.Topics.taken.Goals as goal

pub loop-topic-init : goal.loop-topic-init
loop-topic-init c = record {
  counted = omega arith;
  room = table_room c.args.self.now (subst IsTable c.self.view_is c.self.invariant);
}
