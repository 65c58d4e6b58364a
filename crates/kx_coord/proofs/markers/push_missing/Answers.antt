use Rattle.std.proofs.Common.{◌∙◌, ◌<◌, ap, get_or, length, subst, sym}
use Rattle.std.proofs.lemmas.Bool.{not_from_false}
use Rattle.std.specs.Prelude.{not}
use Rattle.kx_model.specs.Markers.{is_answered}
use Rattle.kx_txnlog.specs.Entry.{row_of}
use Rattle.kx_txnlog.specs.State.{state_of}
use Rattle.kx_coord.proofs.HandedOut.{marker, message_left, none_left, on_err, own_answered}
use Rattle.kx_coord.proofs.HandedOut.{some_missing}
use Rattle.kx_coord.proofs.markers.push_missing.Goals as goal

pub returns-in_err-push-clause-refused : goal.returns-in_err-push-clause-refused
returns-in_err-push-clause-refused c =
    let row = row_of c.args.row.now in
    let lent = c.as_slice-partition-items.ensures.value in
    let same = own_answered c.args.noted.now row _ c.partition-item.result
    c.own_pair-in-loop-partition.ensures in
    let unanswered = sym (c.contains.ensures ∙ same) ∙ c.if-contains.false in
    on_err c.from_residual.result _
    (some_missing c.args.epoch c.args.noted.now row c.in-Prepare.outcome
    c.loop-partition.partition-index c.partition-item.result (ap state_of c.in-Prepare.is)
    (subst (λ ps. c.loop-partition.partition-index < length ps) lent c.loop-partition-test.true)
    (c.partition-item.is ∙ ap (λ ps. get_or ps c.loop-partition.partition-index
    c.partition-item.result) lent)
    unanswered)

pub loop-partition-preserved-then-contains : goal.loop-partition-preserved-then-contains
loop-partition-preserved-then-contains c =
    let same = own_answered c.args.noted.now (row_of c.args.row.now) _ c.partition-item.result
    c.own_pair-in-loop-partition.ensures in
    none_left (marker _ c.args.row.now.txn c.unwrap-held.result c.in-Prepare.outcome)
    (λ p. not (is_answered c.args.noted.now (row_of c.args.row.now) p))
    c.args.messages.now.items c.as_slice-partition-items.result.now c.loop-partition.partition-index
    c.partition-item.result c.loop-partition.messages.items c.loop-partition-test.true
    c.partition-item.is (ap not (sym (c.contains.ensures ∙ same) ∙ c.if-contains.true))
    c.loop-partition.invariant

pub loop-partition-preserved : goal.loop-partition-preserved
loop-partition-preserved c =
    let same = own_answered c.args.noted.now (row_of c.args.row.now) _ c.partition-item.result
    c.own_pair-in-loop-partition.ensures in
    message_left (marker _ c.args.row.now.txn c.unwrap-held.result c.in-Prepare.outcome)
    (λ p. not (is_answered c.args.noted.now (row_of c.args.row.now) p))
    c.args.messages.now.items c.as_slice-partition-items.result.now c.loop-partition.partition-index
    c.partition-item.result c.loop-partition.messages.items c.push.new.self.items
    c.loop-partition-test.true c.partition-item.is
    (not_from_false _ (sym (c.contains.ensures ∙ same) ∙ c.if-contains.false))
    c.loop-partition.invariant c.in_ok-push.ensures.items
