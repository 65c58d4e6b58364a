use Rattle.std.proofs.Common.{◌≡◌, ◌≤◌, take}
use Rattle.kx_membership.specs.Internal.Counting.{all_now, count_of}
use Rattle.kx_membership.proofs.votes.count.Given as goal

abbrev pub invariant-loop-vote : goal.invariant-loop-vote
invariant-loop-vote l = record {
  count : l.count ≡ count_of l.name (all_now (take l.vote-index l.all));
  within : l.count ≤ l.vote-index;
}
