use Rattle.std.proofs.Common.{◌≡◌, map, take}
use Rattle.kx_gateway.proofs.Values.{error_values}
use Rattle.kx_group_gateway.specs.Claims.{answered_claim}
use Rattle.kx_group_gateway.proofs.commits.errors_of.Given as goal

abbrev pub invariant-loop-claim : goal.invariant-loop-claim
invariant-loop-claim l =
    map error_values l.errors.items
    ≡ map (answered_claim l.table l.topic.name l.fn.code) (take l.claim-index l.claims)
