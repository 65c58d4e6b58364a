use Rattle.std.proofs.Common.{◌≡◌, ◌++◌, map}
use Rattle.kx_follow.proofs.follower.machines_of.Given as goal

abbrev pub invariant-loop-node : goal.invariant-loop-node
invariant-loop-node g l =
    l.machines.items ++ map (λ n. n.machine) l.node-iterator.rest.items
    ≡ map (λ n. n.machine) l.fn.nodes.items
