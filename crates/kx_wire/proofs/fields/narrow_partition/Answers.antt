use Rattle.std.proofs.Common.{◌∙◌}
use Rattle.kx_message.specs.Ranges.{IsPartition}
use Rattle.kx_message.specs.Values.{is_partition}
use Rattle.kx_wire.proofs.Values.{found_where, of_partition}
use Rattle.kx_wire.proofs.fields.narrow_partition.Goals as goal

pub returns : goal.returns
returns c = c.ok.ensures.value
    ∙ found_where (is_partition c.args.n) (IsPartition c.args.n) c.args.n c.try_from.result
    (of_partition c.args.n)
    c.try_from.ensures.0
