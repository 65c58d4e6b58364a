use Rattle.std.proofs.Common.{List, take}
use Rattle.kx_audit.specs.Run.{IsYes}
use Rattle.kx_cluster.specs.Any.{any_making}
use Rattle.kx_machines.specs.Any.{any_stands}
use Rattle.kx_nodes.specs.declared.receipt.Receipt.{Receipt}
use Rattle.kx_rerun.proofs.Passing.{Passing}
use Rattle.kx_rerun.proofs.events.events_of.Given as goal
use Rattle.kx_system.specs.System.{System}

abbrev pub invariant-loop-turn : goal.invariant-loop-turn
invariant-loop-turn g l = (given : List Receipt) (s : System)
    → IsYes (any_making g.F.Process.image_of) (any_stands g.F.Process.image_of) l.fn.run given s
    → Passing l.fn.run.traces (take l.turn-index l.fn.run.turns) (take l.turn-index l.fn.run.told)
    l.initial.events.items l.events.items l.sent
