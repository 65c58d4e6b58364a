use Rattle.std.proofs.Common.{ℕ, ℤ, List, [], sym, ◌∙◌, subst, to_z, of_z, w64}
use Rattle.std.proofs.lemmas.Int.{to_z-of_z}
use Rattle.std.specs.Prelude.{flat_map}
use Rattle.std.specs.Io.KnownBytes.{Appends}
use Rattle.std.proofs.KnownBytes.{Appends-nil}
use Rattle.kx_model.specs.Log.{Stored}
use Rattle.kx_text.specs.Pages.{batch_lines}
use Rattle.kx_text.proofs.Writes.{IsBegun, begins, ends, goes_on}
use Rattle.kx_text.proofs.pages.write_all.Goals as goal

abbrev lines_of : ℤ → Stored → List ℕ
lines_of from stored = batch_lines from stored.batch

pub loop-batch-init : goal.loop-batch-init
loop-batch-init g c =
    let lines = lines_of (to_z w64 (of_z w64 c.args.from)) in
    let o = g.W.Write.contents c.args.writer.now in
    let whole = flat_map lines c.args.page.now.batches in
    let e = c.into_iter-batch-iterator.ensures.into_iter_gives
    ∙ c.batches-batch-items.ensures.value in
    subst (λ (es : List Stored). IsBegun o o (flat_map lines es) whole) (sym e) (begins o whole)

pub loop-batch-preserved : goal.loop-batch-preserved
loop-batch-preserved g c =
    let lines = lines_of (to_z w64 (of_z w64 c.args.from)) in
    let old = g.W.Write.contents c.args.writer.now in
    let mid = g.W.Write.contents c.loop-batch.writer in
    let new = g.W.Write.contents c.write_batch.new.writer in
    let whole = flat_map lines c.args.page.now.batches in
    goes_on old mid new (lines c.in-Some.batch) (flat_map lines c.next.new.self) whole
    (subst (λ (es : List Stored). IsBegun old mid (flat_map lines es) whole)
    c.in-Some.ensures.steps c.loop-batch.invariant)
    c.in_ok-write_batch.ensures

pub returns : goal.returns
returns g c =
    let lines = lines_of (to_z w64 (of_z w64 c.args.from)) in
    let old = g.W.Write.contents c.args.writer.now in
    let mid = g.W.Write.contents c.loop-batch.writer in
    let whole = flat_map lines c.args.page.now.batches in
    let h = subst (λ (es : List Stored). IsBegun old mid (flat_map lines es) whole)
    c.in-None.ensures.steps.0 c.loop-batch.invariant in
    subst (λ (z : ℤ). Appends old mid (flat_map (lines_of z) c.args.page.now.batches))
    (to_z-of_z w64 c.args.from c.ranges.from) (ends old mid mid [] whole h (Appends-nil mid))
