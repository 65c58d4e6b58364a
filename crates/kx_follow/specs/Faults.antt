-- The numbers of faults.
use Rattle.std.specs.Prelude.{ℕ}
use Rattle.kx_follow.specs.declared.fault.FollowFault.{FollowFault}
use Rattle.kx_follow.specs.declared.fault.FollowFault.TheVariants as fault

abbrev pub follow_number : FollowFault → ℕ
follow_number fault.DuplicateNode = 1
follow_number fault.Memory = 2
