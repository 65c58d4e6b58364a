use Rattle.std.proofs.Common.{◌<◌, length, subst}
use Rattle.std.specs.Prelude.{OnErr}
use Rattle.std.specs.Int.{w32}
use Rattle.std.proofs.lemmas.Int.{to_z-of_z}
use mir.Val.{of_z, to_z}
use Rattle.kx_model.specs.Markers.{missing_of}
use Rattle.kx_txnlog.specs.Entry.{row_of}
use Rattle.kx_coord.proofs.HandedOut.{on_err, owed_more, some_of, told, told_ok}
use Rattle.kx_coord.proofs.markers.all_missing.Goals as goal

pub returns-in_err-push_missing-clause-refused : goal.returns-in_err-push_missing-clause-refused
returns-in_err-push_missing-clause-refused c =
    let refused = subst (λ e. OnErr c.push_missing.result
    (0 < length (missing_of e c.args.noted.now (row_of c.row-item.result))))
    (to_z-of_z w32 c.args.epoch c.ranges.epoch) c.push_missing.ensures.refused in
    let some = told _ _ _ c.in_err-push_missing.was refused in
    on_err c.from_residual.result _
    (some_of (missing_of c.args.epoch c.args.noted.now) row_of c.args.rows.now
    c.loop-row.row-index c.row-item.result c.loop-row-test.true c.row-item.is some)

pub loop-row-preserved : goal.loop-row-preserved
loop-row-preserved c =
    owed_more (missing_of (to_z w32 (of_z w32 c.args.epoch)) c.args.noted.now) row_of
    c.args.rows.now c.loop-row.row-index c.row-item.result c.loop-row.messages.items
    c.push_missing.new.messages.items c.loop-row-test.true c.row-item.is c.loop-row.invariant
    (told_ok _ _ _ c.in_ok-push_missing.was c.push_missing.ensures.ok)
