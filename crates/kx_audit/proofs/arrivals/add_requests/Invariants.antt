use Rattle.std.proofs.Common.{◌≡◌, ◌++◌, All, take}
use Rattle.kx_audit.specs.Arrivals.{requests_in}
use Rattle.kx_outside.specs.Requests.{IsRequest}
use Rattle.kx_audit.proofs.arrivals.add_requests.Given as goal

abbrev pub invariant-loop-step : goal.invariant-loop-step
invariant-loop-step l =
    record {
      value : l.all ≡ l.initial.all ++ requests_in (take l.step-index l.steps);
      fit : All IsRequest (requests_in (take l.step-index l.steps));
    }
