use Rattle.std.proofs.Common.{◌≡◌, map, take}
use Rattle.kx_membership.specs.Internal.Counting.{all_now, first_of}
use Rattle.kx_membership.proofs.votes.all_votes.Given as goal

abbrev pub invariant-loop-member : goal.invariant-loop-member
invariant-loop-member l =
    all_now l.all.items ≡ map (first_of (all_now l.names)) (take l.member-index l.members)
