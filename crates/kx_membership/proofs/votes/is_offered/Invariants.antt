use Rattle.std.proofs.Common.{◌≡◌, true, take}
use Rattle.kx_membership.specs.Votes.{is_offered}
use Rattle.kx_membership.proofs.votes.is_offered.Given as goal

abbrev pub invariant-loop-member : goal.invariant-loop-member
invariant-loop-member l = is_offered l.name l.number (take l.member-index l.members) ≡ true
