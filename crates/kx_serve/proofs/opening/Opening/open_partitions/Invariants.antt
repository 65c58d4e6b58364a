use Rattle.std.proofs.Common.{All}
use Rattle.kx_serve.specs.Opening.{IsServing}
use Rattle.kx_serve.proofs.opening.Opening.open_partitions.Given as goal

abbrev pub invariant-loop-opened : goal.invariant-loop-opened
invariant-loop-opened g l =
    All (IsServing g.J.Naming.book) l.fn.nodes.items
    → All (IsServing g.J.Naming.book) l.nodes.items
