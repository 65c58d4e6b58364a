use Rattle.std.proofs.Common.{◌≡◌, false, take}
use Rattle.kx_membership.specs.Roster.{has_others}
use Rattle.kx_membership.proofs.member.has_others.Given as goal

abbrev pub invariant-loop-member : goal.invariant-loop-member
invariant-loop-member l = has_others l.number (take l.member-index l.members) ≡ false
