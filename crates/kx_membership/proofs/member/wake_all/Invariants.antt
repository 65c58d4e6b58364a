use Rattle.std.proofs.Common.{◌≡◌, ◌++◌, take, drop, map}
use Rattle.kx_membership.specs.Roster.{woken}
use Rattle.kx_membership.proofs.member.wake_all.Given as goal

abbrev pub invariant-loop-place : goal.invariant-loop-place
invariant-loop-place l =
    l.members ≡ map (woken l.now) (take l.place l.initial.members) ++ drop l.place l.initial.members
