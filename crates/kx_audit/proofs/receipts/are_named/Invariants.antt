use Rattle.std.proofs.Common.{◌≡◌, ◌<◌, ℕ, Some}
use Rattle.std.specs.Prelude.{slice_get}
use Rattle.kx_audit.specs.Receipts.{IsNamed}
use Rattle.kx_nodes.specs.declared.receipt.Receipt.{Receipt}
use Rattle.kx_audit.proofs.receipts.are_named.Given as goal

abbrev pub invariant-loop-receipt : goal.invariant-loop-receipt
invariant-loop-receipt g l = (k : ℕ) (receipt : Receipt) → k < l.receipt-index
    → slice_get l.receipts k ≡ Some receipt → IsNamed g.B.Tells.making l.nodes receipt
