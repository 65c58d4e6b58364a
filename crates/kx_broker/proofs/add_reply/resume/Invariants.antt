use Rattle.std.proofs.Common.{◌≡◌, ◌≤◌, ℕ, length}
use Rattle.std.specs.Prelude.{All, vec_capacity}
use Rattle.kx_broker.specs.Serving.{GoesTo, Waits}
use Rattle.kx_broker.proofs.Resuming.{HasRun}
use Rattle.kx_message.specs.declared.message.Held.{Held}
use Rattle.kx_model.specs.Log.{entries}
use Rattle.kx_broker.proofs.add_reply.resume.Given as goal

abbrev pub invariant-loop-request : goal.invariant-loop-request
invariant-loop-request g l = record {
  run : (number : ℕ) (held : Held)
      → All (Waits (GoesTo number) (entries l.initial.partition.batches) held) l.requests
      → HasRun (GoesTo number) held l.requests l.initial.partition l.partition l.replies.items
      l.request-index;
  many : length l.replies.items ≡ l.request-index;
  capacity : length l.requests ≤ vec_capacity l.replies;
}
