use Rattle.std.proofs.Common.{ℤ, List, [], sym, ◌∙◌, subst, w64}
use Rattle.std.proofs.lemmas.Int.{to_z-of_z}
use Rattle.std.proofs.lemmas.Result.{err_from_is_err_and}
use Rattle.std.specs.Prelude.{flat_map}
use Rattle.std.specs.Io.KnownBytes.{Appends}
use Rattle.std.proofs.KnownBytes.{Appends-nil}
use Rattle.kx_batch.specs.Record.{Record}
use Rattle.kx_text.specs.Dump.{batch_line, batch_text_of, record_line}
use Rattle.kx_text.specs.Writing.{IsBroken}
use Rattle.kx_text.proofs.Writes.{IsBegun, begins, breaks, broken_more, ends, fails_with, goes_on}
use Rattle.kx_text.proofs.dump.write_batch.Goals as goal

pub loop-record-init : goal.loop-record-init
loop-record-init g c =
    let batch = c.args.batch.now.batch in
    let line = record_line batch.base_offset in
    let old = g.W.Write.contents c.args.writer.now in
    let mid = g.W.Write.contents c.write_head.new.writer in
    let whole = batch_text_of batch in
    let e = c.into_iter-record-iterator.ensures.into_iter_gives
    ∙ c.records-record-items.ensures.value in
    subst (λ (rs : List Record). IsBegun old mid (flat_map line rs) whole) (sym e)
    (goes_on old old mid (batch_line batch) (flat_map line batch.records) whole
    (begins old whole) c.in_ok-write_head.ensures)

pub loop-record-preserved : goal.loop-record-preserved
loop-record-preserved g c =
    let batch = c.args.batch.now.batch in
    let line = record_line batch.base_offset in
    let old = g.W.Write.contents c.args.writer.now in
    let mid = g.W.Write.contents c.loop-record.writer in
    let new = g.W.Write.contents c.write_record.new.writer in
    let whole = batch_text_of batch in
    goes_on old mid new (line c.in-Some.record) (flat_map line c.next.new.self) whole
    (subst (λ (rs : List Record). IsBegun old mid (flat_map line rs) whole)
    c.in-Some.ensures.steps c.loop-record.invariant)
    (subst (λ (b : ℤ). Appends mid new (record_line b c.in-Some.record))
    (to_z-of_z w64 c.base_offset.result (record { sfits = c.base_offset.type_inv })
    ∙ c.base_offset.ensures.value) c.in_ok-write_record.ensures)

-- the write of the batch's line failed
pub returns-in_err-write_head : goal.returns-in_err-write_head
returns-in_err-write_head g c =
    let batch = c.args.batch.now.batch in
    let old = g.W.Write.contents c.args.writer.now in
    let new = g.W.Write.contents c.write_head.new.writer in
    let p = err_from_is_err_and c.from_residual.result c.from_residual.ensures.1 in
    fails_with (batch_text_of batch) old new c.from_residual.result p.0 p.1
    (broken_more old new (batch_line batch)
    (flat_map (record_line batch.base_offset) batch.records) c.in_err-write_head.ensures)

-- the write of a record failed
pub returns-in_err-write_record : goal.returns-in_err-write_record
returns-in_err-write_record g c =
    let batch = c.args.batch.now.batch in
    let line = record_line batch.base_offset in
    let old = g.W.Write.contents c.args.writer.now in
    let mid = g.W.Write.contents c.loop-record.writer in
    let new = g.W.Write.contents c.write_record.new.writer in
    let whole = batch_text_of batch in
    let r = c.from_residual-in_err-write_record.result in
    let p = err_from_is_err_and r c.from_residual-in_err-write_record.ensures.1 in
    fails_with whole old new r p.0 p.1
    (breaks old mid new (line c.in-Some.record) (flat_map line c.next.new.self) whole
    (subst (λ (rs : List Record). IsBegun old mid (flat_map line rs) whole)
    c.in-Some.ensures.steps c.loop-record.invariant)
    (subst (λ (b : ℤ). IsBroken (record_line b c.in-Some.record) mid new)
    (to_z-of_z w64 c.base_offset.result (record { sfits = c.base_offset.type_inv })
    ∙ c.base_offset.ensures.value) c.in_err-write_record.ensures))

pub returns : goal.returns
returns g c =
    let batch = c.args.batch.now.batch in
    let line = record_line batch.base_offset in
    let old = g.W.Write.contents c.args.writer.now in
    let new = g.W.Write.contents c.loop-record.writer in
    let whole = batch_text_of batch in
    ends old new new [] whole
    (subst (λ (rs : List Record). IsBegun old new (flat_map line rs) whole)
    c.in-None.ensures.steps.0 c.loop-record.invariant)
    (Appends-nil new)
