use Rattle.std.proofs.Common.{◌≡◌, false, take}
use Rattle.kx_membership.specs.Internal.Counting.{all_now, is_listed}
use Rattle.kx_membership.proofs.votes.is_listed.Given as goal

abbrev pub invariant-loop-listed : goal.invariant-loop-listed
invariant-loop-listed l = is_listed l.name (all_now (take l.listed-index l.names)) ≡ false
