use Rattle.std.proofs.Common.{◌≡◌, ◌-◌, ◌+◌, ◌*◌, ◌^◌, ◌<◌, ◌≤◌, length}
use Rattle.kx_varint.specs.Varint.{groups_of}
use Rattle.kx_varint.proofs.groups.groups_len.Given as goal

abbrev pub invariant-loop-rest : goal.invariant-loop-rest
invariant-loop-rest l = record {
  so_far : l.more + length (groups_of (9 - l.more) l.rest) ≡ length (groups_of 9 l.n);
  room : l.more ≤ 9;
  left : l.rest < 2 ^ (64 - 7 * l.more);
}

abbrev pub decreases-loop-rest : goal.decreases-loop-rest
decreases-loop-rest l = l.rest
