use Rattle.std.proofs.Common.{◌≡◌, pos, ◌∙◌, subst}
use Rattle.std.specs.Int.{w64}
use Rattle.std.specs.Io.KnownBytes.{Appends}
use Rattle.std.proofs.lemmas.Int.{to_z-of_z}
use Rattle.std.proofs.lemmas.Result.{on_ok_weaker}
use Rattle.std.proofs.KnownBytes.{Appends-trans}
use Rattle.kx_model.specs.Page.{Fetched, Page, fetched_of}
use Rattle.kx_text.specs.Pages.{end_text, page_lines, page_text}
use Rattle.kx_text.proofs.Performing.{says}
use Rattle.kx_text.proofs.pages.show.Goals as goal

pub returns : goal.returns
returns g c =
    let old = g.W.Write.contents c.args.writer.now in
    let mid = g.W.Write.contents c.show_records.new.writer in
    let new = g.W.Write.contents c.write_end.new.writer in
    let from = c.args.from in
    let mode = c.args.mode in
    let next = to_z-of_z w64 c.next-next.result (record { sfits = c.next-next.type_inv })
    ∙ c.next-next.ensures in
    let stable = to_z-of_z w64 c.last_stable_offset-stable.result
    (record { sfits = c.last_stable_offset-stable.type_inv })
    ∙ c.last_stable_offset-stable.ensures in
    let last = to_z-of_z w64 c.end-end.result (record { sfits = c.end-end.type_inv })
    ∙ c.end-end.ensures in
    says ((shown : Page) → c.args.page ≡ fetched_of shown
    → Appends old new (page_text from mode shown)) c.write_end.result c.written.result old new
    c.written.ensures
    (on_ok_weaker c.write_end.result
    (λ a shown e. Appends-trans old mid new (page_lines from mode shown)
    (end_text (pos shown.next) (pos shown.stable) (pos shown.end))
    (rw (to_z-of_z w64 from c.ranges.from) at c.in_ok-show_records.ensures shown e)
    (subst (λ (f : Fetched). Appends mid new (end_text f.next f.stable f.end)) e
    (rw next at (rw stable at (rw last at a))))) c.write_end.ensures)
