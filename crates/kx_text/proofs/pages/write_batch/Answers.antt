use Rattle.std.proofs.Common.{◌≡◌, ℕ, ℤ, List, [], Bool, cond, sym, ap, ◌∙◌, subst, to_z, of_z, w64}
use Rattle.std.proofs.lemmas.Int.{to_z-of_z}
use Rattle.std.specs.Prelude.{flat_map}
use Rattle.std.specs.Io.KnownBytes.{Appends}
use Rattle.std.proofs.KnownBytes.{Appends-nil}
use Rattle.kx_batch.specs.Record.{Record}
use Rattle.kx_text.specs.Pages.{batch_lines}
use Rattle.kx_text.proofs.Writes.{IsBegun, begins, goes_on, ends}
use Rattle.kx_text.proofs.pages.write_batch.Invariants.{line_of}
use Rattle.kx_text.proofs.pages.write_batch.Goals as goal

pub loop-record-init : goal.loop-record-init
loop-record-init g c =
    let from : ℤ = to_z w64 (of_z w64 c.args.from) in
    let line = line_of from c.args.batch.now.batch.base_offset in
    let o = g.W.Write.contents c.args.writer.now in
    let e = c.into_iter-record-iterator.ensures.into_iter_gives
    ∙ c.records-record-items.ensures.value in
    subst (λ (rs : List Record). IsBegun o o (flat_map line rs)
    (flat_map line c.args.batch.now.batch.records)) (sym e)
    (begins o (flat_map line c.args.batch.now.batch.records))

pub loop-record-preserved : goal.loop-record-preserved
loop-record-preserved g c =
    let from : ℤ = to_z w64 (of_z w64 c.args.from) in
    let base = c.args.batch.now.batch.base_offset in
    let line = line_of from base in
    let old = g.W.Write.contents c.args.writer.now in
    let mid = g.W.Write.contents c.loop-record.writer in
    let new = g.W.Write.contents c.write_record.new.writer in
    let whole = flat_map line c.args.batch.now.batch.records in
    goes_on old mid new (line c.in-Some.record) (flat_map line c.next.new.self) whole
    (subst (λ (rs : List Record). IsBegun old mid (flat_map line rs) whole)
    c.in-Some.ensures.steps c.loop-record.invariant)
    (subst (λ (b : ℤ). Appends mid new (line_of from b c.in-Some.record))
    (to_z-of_z w64 c.base_offset.result (record { sfits = c.base_offset.type_inv })
    ∙ c.base_offset.ensures.value) c.in_ok-write_record.ensures)

pub returns : goal.returns
returns g c =
    let from : ℤ = to_z w64 (of_z w64 c.args.from) in
    let line = line_of from c.args.batch.now.batch.base_offset in
    let old = g.W.Write.contents c.args.writer.now in
    let new = g.W.Write.contents c.loop-record.writer in
    let whole = flat_map line c.args.batch.now.batch.records in
    let e : batch_lines from c.args.batch.now.batch ≡ whole =
    ap (λ (b : Bool). cond b [] whole) (sym c.is_control.ensures ∙ c.if-is_control.false) in
    let f : from ≡ c.args.from = to_z-of_z w64 c.args.from c.ranges.from in
    subst (λ (z : ℤ). Appends old new (batch_lines z c.args.batch.now.batch)) f
    (subst (λ (t : List ℕ). Appends old new t) (sym e)
    (ends old new new [] whole
    (subst (λ (rs : List Record). IsBegun old new (flat_map line rs) whole)
    c.in-None.ensures.steps.0 c.loop-record.invariant)
    (Appends-nil new)))
