use Rattle.std.proofs.Common.{◌≡◌, ◌++◌, take, drop}
use Rattle.kx_membership.specs.Roster.{changed}
use Rattle.kx_membership.specs.declared.member.Member.{Member}
use Rattle.kx_membership.proofs.member.place_of.Given as goal

abbrev pub invariant-loop-place : goal.invariant-loop-place
invariant-loop-place l =
    (f : Member → Member) → changed l.number f l.members
    ≡ take l.place l.members ++ changed l.number f (drop l.place l.members)
