use Rattle.std.proofs.Common.{◌≡◌, None, take}
use Rattle.std.specs.List.{find}
use Rattle.kx_membership.specs.Roster.{is_numbered}
use Rattle.kx_membership.proofs.member.find.Given as goal

abbrev pub invariant-loop-member : goal.invariant-loop-member
invariant-loop-member l = find (is_numbered l.number) (take l.member-index l.members) ≡ None
