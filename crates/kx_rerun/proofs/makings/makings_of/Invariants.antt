use Rattle.std.proofs.Common.{All, drop}
use Rattle.kx_rerun.specs.Making.{AreClients, IsMaking}
use Rattle.kx_rerun.proofs.makings.makings_of.Given as goal

abbrev pub invariant-loop-number : goal.invariant-loop-number
invariant-loop-number g l = record {
  makings : All IsMaking l.made.items;
  ordered : AreClients g.F.Process.image_of (drop l.number l.fn.run.traces) l.made.items;
}
