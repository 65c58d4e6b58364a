use Rattle.std.specs.HashSet.{contains}
use Rattle.kx_audit.proofs.Seeing.{AreStepsSeen, same_step}
use Rattle.kx_audit.proofs.receipts.are_distinct.Given as goal

abbrev pub invariant-loop-receipt : goal.invariant-loop-receipt
invariant-loop-receipt l = AreStepsSeen (contains same_step l.seen) l.receipts l.receipt-index
