use Rattle.std.proofs.Common.{◌≡◌, ◌≤◌, ◌+◌, ◌++◌, take, vec_capacity, vec_len}
use Rattle.kx_membership.specs.Roster.{gone_numbers}
use Rattle.kx_membership.proofs.member.note_gone.Given as goal

abbrev pub invariant-loop-member : goal.invariant-loop-member
invariant-loop-member l = record {
  items : l.gone.items ≡ l.initial.gone.items ++ gone_numbers l.going (take l.member-index l.members);
  room : vec_capacity l.initial.gone ≤ vec_capacity l.gone;
  within : vec_len l.gone ≤ vec_len l.initial.gone + l.member-index;
}
