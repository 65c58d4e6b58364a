use Rattle.std.proofs.Common.{◌≡◌, true, take}
use Rattle.kx_membership.specs.Votes.{all_offer}
use Rattle.kx_membership.proofs.votes.all_offer.Given as goal

abbrev pub invariant-loop-member : goal.invariant-loop-member
invariant-loop-member l = all_offer l.name (take l.member-index l.members) ≡ true
