use Rattle.std.proofs.Common.{◌≡◌, All, take}
use Rattle.kx_audit.proofs.Requests.{requests_at}
use Rattle.kx_outside.specs.Requests.{IsRequest}
use Rattle.kx_audit.proofs.arrivals.arrived.Given as goal

abbrev pub invariant-loop-node : goal.invariant-loop-node
invariant-loop-node g l =
    record {
      value : l.all ≡ requests_at (take l.node-index l.nodes);
      fit : All IsRequest (requests_at (take l.node-index l.nodes));
    }
