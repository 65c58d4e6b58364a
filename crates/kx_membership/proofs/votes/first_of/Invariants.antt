use Rattle.std.proofs.Common.{◌≡◌, None, take}
use Rattle.std.specs.List.{find}
use Rattle.kx_membership.specs.Internal.Counting.{all_now, is_listed}
use Rattle.kx_membership.proofs.votes.first_of.Given as goal

abbrev pub invariant-loop-protocol : goal.invariant-loop-protocol
invariant-loop-protocol l =
    find (λ p. is_listed p.name (all_now l.names)) (take l.protocol-index l.protocol-items) ≡ None
