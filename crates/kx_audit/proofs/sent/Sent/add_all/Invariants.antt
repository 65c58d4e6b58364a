use Rattle.std.proofs.Common.{◌≡◌, ◌++◌, take}
use Rattle.kx_audit.proofs.sent.Sent.add_all.Given as goal

abbrev pub invariant-loop-message : goal.invariant-loop-message
invariant-loop-message l = l.self ≡ l.initial.self ++ take l.message-index l.messages
