use Rattle.std.proofs.Common.{◌+◌, ℕ, List, ◌∷◌, drop, map, sym, ap, ◌∙◌, subst}
use Rattle.std.specs.Prelude.{flat_map}
use Rattle.std.proofs.lemmas.List.{at_drop_more}
use Rattle.kx_text.proofs.Writes.{IsBegun, goes_on}
use Rattle.kx_txnlog.specs.Entry.{row_of}
use Rattle.kx_txnlog.specs.declared.entry.Row.{Row}
use Rattle.kx_script.specs.Printing.{row_line}
use Rattle.kx_script.proofs.printing.write_rows.Goals as goal

abbrev lines_of : List Row → List ℕ
lines_of rows = flat_map row_line (map row_of rows)

pub loop-row-preserved : goal.loop-row-preserved
loop-row-preserved g c =
    let old = g.W.Write.contents c.args.writer.now in
    let mid = g.W.Write.contents c.loop-row.writer in
    let new = g.W.Write.contents c.write_row.new.writer in
    let r = c.row-item.result in
    let i = c.loop-row.row-index in
    let rs = c.args.rows.now in
    goes_on old mid new (row_line (row_of r)) (lines_of (drop (i + 1) rs)) (lines_of rs)
    (subst (λ (t : List ℕ). IsBegun old mid t (lines_of rs))
    (at_drop_more lines_of rs i r c.loop-row-test.true
    ∙ ap (λ (q : Row). lines_of (q ∷ drop (i + 1) rs)) (sym c.row-item.is))
    c.loop-row.invariant)
    c.in_ok-write_row.ensures
