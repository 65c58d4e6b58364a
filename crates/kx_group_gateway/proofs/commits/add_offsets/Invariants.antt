use Rattle.std.proofs.Common.{◌≡◌, ◌++◌, drop}
use Rattle.kx_group_gateway.specs.Claims.{offsets_in}
use Rattle.kx_group_gateway.proofs.commits.add_offsets.Given as goal

abbrev pub invariant-loop-claim : goal.invariant-loop-claim
invariant-loop-claim l =
    l.fn.offsets.items ++ offsets_in l.table l.name l.claims
    ≡ l.offsets.items ++ offsets_in l.table l.name (drop l.claim-index l.claims)
