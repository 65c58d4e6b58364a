use Rattle.std.proofs.Common.{◌≡◌, ◌++◌, take}
use Rattle.kx_audit.specs.Origins.{sent_by}
use Rattle.kx_audit.proofs.origins.gather.Given as goal

abbrev pub invariant-loop-node : goal.invariant-loop-node
invariant-loop-node g l = l.all ≡ l.initial.all ++ sent_by (take l.node-index l.nodes)
