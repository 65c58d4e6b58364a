use Rattle.std.proofs.Common.{length, refl, arith, rules}
use Rattle.std.specs.Prelude.{IsFalse, IsTrue}
use Rattle.std.proofs.lemmas.Option.{slice_get_read, slice_get_within}
use Rattle.kx_audit.specs.Receipts.{IsNamed}
use Rattle.kx_audit.proofs.Places.{more_places}
use Rattle.kx_audit.proofs.receipts.are_named.Goals as goal

pub returns-then-not-is_named-clause-unnamed : goal.returns-then-not-is_named-clause-unnamed
returns-then-not-is_named-clause-unnamed g c = λ _.
    let receipts = c.args.receipts.now in
    let n = c.loop-receipt.receipt-index in
    let receipt = c.receipt-item.result in
    let no : IsFalse c.is_named.result = search rules in
    record {
      number = n;
      receipt = receipt;
      there = slice_get_read receipts (length receipts) n receipt refl (omega arith)
          c.receipt-item.is;
      unnamed = c.is_named.ensures.unnamed no;
    }

pub loop-receipt-preserved : goal.loop-receipt-preserved
loop-receipt-preserved g c =
    let receipts = c.args.receipts.now in
    let n = c.loop-receipt.receipt-index in
    let receipt = c.receipt-item.result in
    let yes : IsTrue c.is_named.result = search rules in
    more_places receipts n receipt (λ k r. IsNamed g.B.Tells.making c.args.nodes.now r)
    (slice_get_read receipts (length receipts) n receipt refl (omega arith) c.receipt-item.is)
    c.loop-receipt.invariant (c.is_named.ensures.named yes)

pub returns-clause-named : goal.returns-clause-named
returns-clause-named g c = λ _ k receipt at.
    let lt = slice_get_within c.args.receipts.now k receipt at in
    c.loop-receipt.invariant k receipt (omega (arith, lt)) at
