use Rattle.std.proofs.Common.{ℕ, ℤ, List, [], sym, ◌∙◌, subst, Option, option_map, Bor}
use Rattle.std.proofs.Common.{rules}
use Rattle.std.specs.Int.{w64, w128}
use Rattle.std.specs.Int.RustNames.{FitsSigned}
use Rattle.std.proofs.lemmas.Int.{to_z-of_z}
use Rattle.std.specs.Io.KnownBytes.{Appends}
use Rattle.std.proofs.KnownBytes.{Appends-nil}
use Rattle.kx_batch.specs.Record.{Record}
use Rattle.kx_model.specs.Reading.{Shown}
use Rattle.kx_reader.specs.Pairs.{pairs}
use Rattle.kx_text.specs.Pages.{value_line}
use Rattle.kx_text.proofs.Pairs.{pair_line, pair_lines, same_lines}
use Rattle.kx_text.proofs.Writes.{IsBegun, begins, ends, goes_on}
use Rattle.kx_text.proofs.pages.write_committed.Goals as goal

pub loop-offset-init : goal.loop-offset-init
loop-offset-init g c =
    let o = g.W.Write.contents c.args.writer.now in
    let whole = pair_lines (pairs c.args.records) in
    subst (λ (records : List Shown). IsBegun o o (pair_lines (pairs records)) whole)
    (sym c.into_iter-offset-iterator.ensures.into_iter_gives) (begins o whole)

pub loop-offset-preserved : goal.loop-offset-preserved
loop-offset-preserved g c =
    let old = g.W.Write.contents c.args.writer.now in
    let mid = g.W.Write.contents c.loop-offset.writer in
    let new = g.W.Write.contents c.write_value.new.writer in
    let whole = pair_lines (pairs c.args.records) in
    let fits : FitsSigned w64 c.in-Some.offset = search rules in
    goes_on old mid new (pair_line (c.in-Some.offset, c.in-Some.shown))
    (pair_lines (pairs c.next.new.self)) whole
    (subst (λ (ps : List (ℤ × Record)). IsBegun old mid (pair_lines ps) whole)
    c.in-Some.ensures.steps c.loop-offset.invariant)
    (subst (λ (value : Option (List ℕ)). Appends mid new (value_line c.in-Some.offset value))
    c.value.ensures
    (subst (λ (offset : ℤ). Appends mid new
    (value_line offset (option_map (λ (s : Bor (List ℕ)). s.now) c.value.result)))
    (to_z-of_z w128 c.from.result (record { sfits = c.from.type_inv }) ∙ c.from.ensures
    ∙ to_z-of_z w64 c.in-Some.offset fits)
    c.in_ok-write_value.ensures))

pub returns : goal.returns
returns g c =
    let old = g.W.Write.contents c.args.writer.now in
    let mid = g.W.Write.contents c.loop-offset.writer in
    let whole = pair_lines (pairs c.args.records) in
    let h = subst (λ (ps : List (ℤ × Record)). IsBegun old mid (pair_lines ps) whole)
    c.in-None.ensures.steps.0 c.loop-offset.invariant in
    subst (Appends old mid) (same_lines c.args.records)
    (ends old mid mid [] whole h (Appends-nil mid))
