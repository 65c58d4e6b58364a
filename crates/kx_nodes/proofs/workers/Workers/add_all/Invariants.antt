use Rattle.std.proofs.Common.{◌≡◌}
use Rattle.kx_nodes.proofs.workers.Workers.add_all.Given as goal

-- the same nodes are served
abbrev pub invariant-loop-inbox : goal.invariant-loop-inbox
invariant-loop-inbox g l =
    ((goal.iterator-loop-inbox g).can_next l.inbox-iterator
    × (goal.iterator-loop-inbox g).is_finite l.inbox-iterator)
    × (l.self ≡ l.fn.self)
