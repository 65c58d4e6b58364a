use Rattle.std.proofs.Common.{lit<, lit≤}
use Rattle.kx_varint.specs.Varint.{varint}
use Rattle.kx_varint.proofs.Writing.{shortest, varint_fits}
use Rattle.kx_varint.proofs.groups.put_varint.Goals as goal

pub returns-clause-shortest : goal.returns-clause-shortest
returns-clause-shortest c = shortest varint c.args.n (lit< tt) (lit< tt) (lit≤ tt)
    (varint_fits c.args.n c.ranges.n)
