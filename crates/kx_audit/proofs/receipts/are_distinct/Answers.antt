use Rattle.std.proofs.Common.{◌≡◌, Some, length, refl, sym, ◌∙◌, arith}
use Rattle.std.specs.Prelude.{slice_get}
use Rattle.std.specs.HashSet.{contains}
use Rattle.std.proofs.lemmas.Bool.{not-false, not-true}
use Rattle.std.proofs.lemmas.Option.{slice_get_read}
use Rattle.kx_audit.proofs.Seeing.{same_step, seen_all, seen_alike, seen_next, step_key}
use Rattle.kx_audit.proofs.receipts.are_distinct.Goals as goal

pub returns-then-not-branch-clause-alike : goal.returns-then-not-branch-clause-alike
returns-then-not-branch-clause-alike c = λ _.
    let receipts = c.args.receipts.now in
    let n = c.loop-receipt.receipt-index in
    let receipt = c.receipt-item.result in
    let at : slice_get receipts n ≡ Some receipt =
    slice_get_read receipts (length receipts) n receipt refl (omega arith) c.receipt-item.is in
    let has = contains same_step c.loop-receipt.seen in
    let added = rw c.from.ensures at c.in_ok-insert.ensures.added in
    seen_alike has receipts n receipt c.loop-receipt.invariant at
    (not-false (has (step_key receipt)) (sym added ∙ c.if-not-branch.true))

pub loop-receipt-preserved : goal.loop-receipt-preserved
loop-receipt-preserved c =
    let receipts = c.args.receipts.now in
    let n = c.loop-receipt.receipt-index in
    let receipt = c.receipt-item.result in
    let at : slice_get receipts n ≡ Some receipt =
    slice_get_read receipts (length receipts) n receipt refl (omega arith) c.receipt-item.is in
    let has = contains same_step c.loop-receipt.seen in
    let added = rw c.from.ensures at c.in_ok-insert.ensures.added in
    seen_next has receipts n receipt c.loop-receipt.invariant at
    (contains same_step c.insert.new.self)
    (not-true (has (step_key receipt)) (sym added ∙ c.if-not-branch.false))
    (rw c.from.ensures at c.in_ok-insert.ensures.updates.0)

pub returns-clause-distinct : goal.returns-clause-distinct
returns-clause-distinct c = λ _.
    seen_all (contains same_step c.loop-receipt.seen) c.args.receipts.now
    c.loop-receipt.receipt-index c.loop-receipt.invariant (omega arith)
