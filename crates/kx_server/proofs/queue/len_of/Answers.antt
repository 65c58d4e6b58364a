use Rattle.std.proofs.Common.{arith}
use Rattle.kx_message.proofs.Sizes.{room}
use Rattle.kx_server.proofs.Queues.{within}
use Rattle.kx_server.proofs.queue.len_of.Goals as goal

-- src/queue.rt:43:5
pub fields_len-requires : goal.fields_len-requires
fields_len-requires c = room c.args.message.now c.requires

-- src/queue.rt:43:5
pub overflow_add-result : goal.overflow_add-result
overflow_add-result c =
    let below = within c.args.message.now c.requires in
    omega (arith, below, c.fields_len.ensures)

-- src/queue.rt:38:1
pub returns-clause-within : goal.returns-clause-within
returns-clause-within c =
    let below = within c.args.message.now c.requires in
    omega (arith, below, c.fields_len.ensures)
