use Rattle.std.proofs.Common.{◌≡◌, ◌≤◌, length, take}
use Rattle.std.specs.Prelude.{vec_capacity}
use Rattle.kx_broker.specs.Serving.{told_each}
use Rattle.kx_broker.proofs.resume.tell.Given as goal

-- those so far
abbrev pub invariant-loop-request : goal.invariant-loop-request
invariant-loop-request l = record {
  many : length l.replies.items ≡ length l.yielded;
  replies : l.replies.items
      ≡ told_each (take (length l.yielded) l.requests) (take (length l.yielded) l.answers);
  capacity : length l.requests ≤ vec_capacity l.replies;
}
