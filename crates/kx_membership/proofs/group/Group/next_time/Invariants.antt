use Rattle.std.proofs.Common.{◌≡◌, take}
use Rattle.std.specs.List.{fold}
use Rattle.kx_membership.specs.Group.{due_time, sooner}
use Rattle.kx_membership.proofs.group.Group.next_time.Given as goal

abbrev pub invariant-loop-member : goal.invariant-loop-member
invariant-loop-member l = l.time ≡ fold sooner (due_time l.self) (take l.member-index l.members)
