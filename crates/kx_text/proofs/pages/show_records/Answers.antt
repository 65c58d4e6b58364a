use Rattle.std.proofs.Common.{◌≡◌, ℕ, ℤ, List, sym, ap, ◌∙◌, subst}
use Rattle.std.specs.Prelude.{flat_map}
use Rattle.std.specs.Int.{w64}
use Rattle.std.specs.Io.KnownBytes.{Appends}
use Rattle.std.proofs.lemmas.Int.{to_z-of_z}
use Rattle.std.proofs.lemmas.Result.{on_ok_weaker}
use Rattle.kx_model.specs.Page.{Fetched, Page, fetched_of}
use Rattle.kx_model.specs.Reading.{Shown, committed_of}
use Rattle.kx_text.specs.Pages.{batch_lines, page_lines, shown_lines}
use Rattle.kx_text.specs.declared.mode.Mode.{Mode}
use Rattle.kx_text.proofs.Performing.{says}
use Rattle.kx_text.proofs.pages.show_records.Goals as goal

-- the records of all batches of a page
abbrev all_lines : ℤ → Fetched → List ℕ
all_lines from f = flat_map (λ stored. batch_lines from stored.batch) f.batches

pub returns-in-All : goal.returns-in-All
returns-in-All g c =
    let old = g.W.Write.contents c.args.writer.now in
    let new = g.W.Write.contents c.write_all.new.writer in
    let from = c.args.from in
    says ((shown : Page) → c.args.page ≡ fetched_of shown
    → Appends old new (page_lines from c.args.mode shown)) c.write_all.result c.written.result
    old new c.written.ensures
    (on_ok_weaker c.write_all.result
    (λ a shown e. subst (λ (mode : Mode). Appends old new (page_lines from mode shown))
    (sym c.in-All.is)
    (subst (λ (f : Fetched). Appends old new (all_lines from f)) e
    (rw (to_z-of_z w64 from c.ranges.from) at a))) c.write_all.ensures)

pub returns-in-Ok : goal.returns-in-Ok
returns-in-Ok g c =
    let old = g.W.Write.contents c.args.writer.now in
    let new = g.W.Write.contents c.write_committed.new.writer in
    let from = c.args.from in
    says ((shown : Page) → c.args.page ≡ fetched_of shown
    → Appends old new (page_lines from c.args.mode shown)) c.write_committed.result
    c.written-in-Committed.result old new c.written-in-Committed.ensures
    (on_ok_weaker c.write_committed.result
    (λ a shown e. subst (λ (mode : Mode). Appends old new (page_lines from mode shown))
    (sym c.in-Committed.is)
    (subst (λ (records : List Shown). Appends old new (shown_lines records))
    (c.in-Ok.ensures ∙ ap committed_of e) a)) c.write_committed.ensures)
