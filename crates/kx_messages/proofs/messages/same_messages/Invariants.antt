use Rattle.std.proofs.Common.{◌≡◌, take}
use Rattle.kx_messages.proofs.messages.same_messages.Given as goal

-- the messages so far are the same
abbrev pub invariant-loop-at : goal.invariant-loop-at
invariant-loop-at l = take l.at l.left ≡ take l.at l.right
