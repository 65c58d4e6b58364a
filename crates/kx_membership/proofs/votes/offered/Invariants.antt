use Rattle.std.proofs.Common.{◌≡◌, map, take}
use Rattle.std.specs.List.{filter}
use Rattle.kx_membership.specs.Internal.Counting.{all_now}
use Rattle.kx_membership.specs.Votes.{all_offer}
use Rattle.kx_membership.proofs.votes.offered.Given as goal

abbrev pub invariant-loop-protocol : goal.invariant-loop-protocol
invariant-loop-protocol l =
    all_now l.names.items
    ≡ filter (λ name. all_offer name l.members)
    (map (λ p. p.name) (take l.protocol-index l.protocol-items))
