use Rattle.std.proofs.Common.{lit<, lit≤}
use Rattle.kx_varint.specs.Varint.{varlong}
use Rattle.kx_varint.proofs.Writing.{shortest, varlong_fits}
use Rattle.kx_varint.proofs.groups.put_varlong.Goals as goal

pub returns-clause-shortest : goal.returns-clause-shortest
returns-clause-shortest c = shortest varlong c.args.n (lit< tt) (lit< tt) (lit≤ tt)
    (varlong_fits c.args.n c.ranges.n)
