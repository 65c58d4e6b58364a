use Rattle.std.proofs.Common.{◌≡◌, take}
use Rattle.std.specs.List.{fold}
use Rattle.kx_membership.specs.Internal.Counting.{all_now, better_of}
use Rattle.kx_membership.proofs.votes.best_of.Given as goal

abbrev pub invariant-loop-place : goal.invariant-loop-place
invariant-loop-place l =
    l.best ≡ fold (better_of (all_now l.all)) l.name (take l.place (all_now l.all))
