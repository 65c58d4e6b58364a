use Rattle.std.proofs.Common.{◌≡◌, take}
use Rattle.kx_client.proofs.waiting.Waiting.copies.Given as goal

abbrev pub invariant-loop-request : goal.invariant-loop-request
invariant-loop-request l = l.copies.items ≡ take l.request-index l.request-items
