use Rattle.std.proofs.Common.{◌≡◌, ◌≤◌, length, map, take, negsuc}
use Rattle.std.specs.Prelude.{vec_capacity}
use Rattle.kx_model.specs.Verification.{passed_on, reply_to}
use Rattle.kx_broker.proofs.reply.pass_on.Given as goal

-- those so far
abbrev pub invariant-loop-request : goal.invariant-loop-request
invariant-loop-request l = record {
  many : length l.replies.items ≡ l.request-index;
  replies : l.replies.items ≡ map (λ p. reply_to p.request (passed_on l.fn.code) (negsuc 0))
      (take l.request-index l.requests);
  capacity : length l.requests ≤ vec_capacity l.replies;
}
