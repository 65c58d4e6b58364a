use Rattle.std.proofs.Common.{◌≡◌, false, take}
use Rattle.kx_membership.specs.Roster.{any_goes}
use Rattle.kx_membership.proofs.member.any_goes.Given as goal

abbrev pub invariant-loop-member : goal.invariant-loop-member
invariant-loop-member l = any_goes l.going (take l.member-index l.members) ≡ false
