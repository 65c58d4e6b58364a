use Rattle.kx_machines.proofs.Numbers.{is_no_offsets}
use Rattle.kx_machines.proofs.memory.local_server.Goals as goal

pub returns-in_ok-local_partition : goal.returns-in_ok-local_partition
returns-in_ok-local_partition c =
    c.in_ok-local_partition.ensures
    (is_no_offsets c.args.number (c.is_data.ensures.data.0 c.if-is_data.true))
