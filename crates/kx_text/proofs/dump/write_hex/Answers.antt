use Rattle.std.proofs.Common.{◌∷◌, [], ◌/◌, ◌%◌, ℕ, List, ap, ◌∙◌, subst}
use Rattle.std.proofs.lemmas.Result.{err_from_is_err_and}
use Rattle.std.specs.Io.KnownBytes.{Appends}
use Rattle.std.specs.Slice.Iter.{chunks_rest}
use Rattle.std.proofs.lemmas.List.Concat.{flat_map-append}
use Rattle.kx_text.specs.Dump.{digit_of, hex_of}
use Rattle.kx_text.specs.Writing.{IsBroken}
use Rattle.kx_text.proofs.Writes.{IsBegun, breaks, fails_with, goes_on}
use Rattle.kx_text.proofs.dump.write_hex.Goals as goal

pub loop-part-preserved : goal.loop-part-preserved
loop-part-preserved g c =
    let old = g.W.Write.contents c.args.writer.now in
    let mid = g.W.Write.contents c.loop-part.writer in
    let new = g.W.Write.contents c.write_whole.new.writer in
    let part = c.in-Some.part.now in
    let rest = chunks_rest c.next.new.self in
    let whole = hex_of c.args.bytes.now in
    let steps = c.in-Some.ensures.steps in
    let apart = flat_map-append (λ (b : ℕ). digit_of (b / 16) ∷ digit_of
    (b % 16) ∷ []) part rest in (
      steps.0 ∙ c.loop-part.invariant.0,
      tt,
      goes_on old mid new (hex_of part) (hex_of rest) whole
          (subst (λ (t : List ℕ). IsBegun old mid t whole) (ap hex_of steps.1.0 ∙ apart)
          c.loop-part.invariant.2)
          (subst (Appends mid new) c.put_digits.ensures c.in_ok-write_whole.ensures),
    )

pub returns-in_err-write_whole : goal.returns-in_err-write_whole
returns-in_err-write_whole g c =
    let old = g.W.Write.contents c.args.writer.now in
    let mid = g.W.Write.contents c.loop-part.writer in
    let new = g.W.Write.contents c.write_whole.new.writer in
    let part = c.in-Some.part.now in
    let rest = chunks_rest c.next.new.self in
    let whole = hex_of c.args.bytes.now in
    let apart = flat_map-append (λ (b : ℕ). digit_of (b / 16) ∷ digit_of
    (b % 16) ∷ []) part rest in
    let p = err_from_is_err_and c.from_residual.result c.from_residual.ensures.1 in
    fails_with whole old new c.from_residual.result p.0 p.1
    (breaks old mid new (hex_of part) (hex_of rest) whole
    (subst (λ (t : List ℕ). IsBegun old mid t whole) (ap hex_of c.in-Some.ensures.steps.1.0 ∙ apart)
    c.loop-part.invariant.2)
    (subst (λ (t : List ℕ). IsBroken t mid new) c.put_digits.ensures c.in_err-write_whole.ensures))
