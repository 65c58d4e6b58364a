use Rattle.std.proofs.Common.{arith}
use Rattle.kx_varint.proofs.Bounds.{two_below}
use Rattle.kx_varint.proofs.groups.known_groups.Goals as goal

pub returns-then-first-lt128-clause-bound : goal.returns-then-first-lt128-clause-bound
returns-then-first-lt128-clause-bound c = two_below c.from.result c.args.top c.args.most
    c.requires.some (omega arith)

pub returns-then-second-lt128-clause-bound : goal.returns-then-second-lt128-clause-bound
returns-then-second-lt128-clause-bound c = two_below _ c.args.top c.args.most
    c.requires.some (omega arith)
