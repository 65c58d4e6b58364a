use Rattle.std.proofs.Common.{◌≡◌, ◌++◌, take}
use Rattle.kx_rerun.proofs.numbers.Numbers.add_all.Given as goal

abbrev pub invariant-loop-message : goal.invariant-loop-message
invariant-loop-message l = l.self ≡ l.initial.self ++ take l.message-index l.messages
