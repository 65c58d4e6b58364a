use Rattle.kx_coord_node.proofs.Taking.{takes_other}
use Rattle.kx_coord_node.proofs.machine.CoordinatorMachine.message.Goals as goal

pub returns-in_default : goal.returns-in_default
returns-in_default g c =
    takes_other c.args.message.now c.args.self.now c.rest.result c.in_default.not-InitProducerId
    c.in_default.not-AddPartition c.in_default.not-EndTxn c.in_default.not-MarkerReply
    c.rest.ensures
