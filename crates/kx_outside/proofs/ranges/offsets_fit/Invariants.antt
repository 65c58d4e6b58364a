use Rattle.std.specs.Prelude.{take}
use Rattle.std.specs.List.{AllByRecursion}
use Rattle.kx_message.specs.Message.{IsOffset}
use Rattle.kx_outside.proofs.ranges.offsets_fit.Given as goal

abbrev pub invariant-loop-offset : goal.invariant-loop-offset
invariant-loop-offset l = AllByRecursion IsOffset (take l.offset-index l.items)
