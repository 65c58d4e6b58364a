use Rattle.std.proofs.Common.{◌≡◌, None, take}
use Rattle.std.specs.List.{find}
use Rattle.kx_membership.specs.Roster.{has_id}
use Rattle.kx_membership.proofs.member.find_id.Given as goal

abbrev pub invariant-loop-member : goal.invariant-loop-member
invariant-loop-member l = find (has_id l.id) (take l.member-index l.members) ≡ None
