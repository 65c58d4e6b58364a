use Rattle.std.proofs.Common.{sym, subst}
use Rattle.kx_group.proofs.Noting.{IsNoting, noted_none, noted_one}
use Rattle.kx_group.proofs.notes.note_offsets.Goals as goal

pub loop-record-preserved-in-Some-said_in : goal.loop-record-preserved-in-Some-said_in
loop-record-preserved-in-Some-said_in c =
    let n = subst (λ l. IsNoting c.args.records l c.args.id c.args.at c.args.commits.now
    c.loop-record.commits) c.in-Some.ensures.steps c.loop-record.invariant in
    noted_one c.args.records c.in-Some.record c.next.new.self c.args.id c.args.at
    c.args.commits.now c.loop-record.commits n c.in-Some-said_in.said c.note.new.self
    (sym c.in-Some-said_in.ensures) c.note.ensures.noted c.note.ensures.room

pub loop-record-preserved : goal.loop-record-preserved
loop-record-preserved c =
    let n = subst (λ l. IsNoting c.args.records l c.args.id c.args.at c.args.commits.now
    c.loop-record.commits) c.in-Some.ensures.steps c.loop-record.invariant in
    noted_none c.args.records c.in-Some.record c.next.new.self c.args.id c.args.at
    c.args.commits.now c.loop-record.commits n (sym c.in_default.ensures)
