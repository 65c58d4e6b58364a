use Rattle.std.proofs.Common.{◌≡◌, ◌+◌, drop}
use Rattle.kx_audit.specs.Replayed.{steps_of, traces_of}
use Rattle.kx_audit.proofs.verdict.have_steps.Given as goal

-- what is left of the count is for the steps of the other traces
abbrev pub invariant-loop-node : goal.invariant-loop-node
invariant-loop-node g l =
    l.left + steps_of (traces_of l.nodes)
    ≡ l.count + steps_of (traces_of (drop l.node-index l.nodes))
