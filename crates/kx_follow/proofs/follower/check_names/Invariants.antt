use Rattle.std.proofs.Common.{take}
use Rattle.kx_follow.specs.Beginning.{AreNodes}
use Rattle.kx_follow.proofs.follower.check_names.Given as goal

abbrev pub invariant-loop-number : goal.invariant-loop-number
invariant-loop-number g l =
    record { first : AreNodes g.B.Tells.making (take l.number l.nodes) }
