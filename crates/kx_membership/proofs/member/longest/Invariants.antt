use Rattle.std.proofs.Common.{◌≡◌, take}
use Rattle.kx_membership.specs.Roster.{longest}
use Rattle.kx_membership.proofs.member.longest.Given as goal

abbrev pub invariant-loop-member : goal.invariant-loop-member
invariant-loop-member l = l.most ≡ longest (take l.member-index l.members)
