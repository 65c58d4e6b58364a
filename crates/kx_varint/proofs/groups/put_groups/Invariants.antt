use Rattle.std.proofs.Common.{◌≡◌, ◌-◌, ◌*◌, ◌^◌, ◌<◌, ◌≤◌, ◌++◌, length, take}
use Rattle.kx_varint.specs.Varint.{groups_of}
use Rattle.kx_varint.proofs.groups.put_groups.Given as goal

abbrev pub invariant-loop-rest : goal.invariant-loop-rest
invariant-loop-rest l = record {
  so_far : take l.len l.text ++ groups_of (9 - l.len) l.rest ≡ groups_of 9 l.n;
  size : length l.text ≡ 10;
  room : l.len ≤ 9;
  left : l.rest < 2 ^ (64 - 7 * l.len);
}

abbrev pub decreases-loop-rest : goal.decreases-loop-rest
decreases-loop-rest l = l.rest
