use Rattle.std.proofs.Common.{◌&&◌, Bool, cond, None, Some, sym, ap, ◌∙◌}
use Rattle.std.specs.List.{list_all}
use Rattle.kx_text.specs.Words.{is_word, pieces_of, words_of}
use Rattle.kx_text.proofs.words.words_of.Goals as goal

pub loop-piece-init : goal.loop-piece-init
loop-piece-init c = ap (list_all is_word)
    (sym c.of-piece-items.ensures ∙ sym c.into_iter-piece-iterator.ensures.into_iter_gives)

pub returns-then-not-is_word : goal.returns-then-not-is_word
unfolding words_of
returns-then-not-is_word c = sym (ap (λ (b : Bool). cond b (Some (pieces_of c.args.line.now)) None)
    (c.loop-piece.invariant ∙ ap (list_all is_word) c.in-Some.ensures.steps
    ∙ ap (λ (b : Bool). b && list_all is_word c.next.new.self)
    (sym c.is_word.ensures ∙ c.if-not-is_word.true)))

pub loop-piece-preserved : goal.loop-piece-preserved
loop-piece-preserved c =
    c.loop-piece.invariant ∙ ap (list_all is_word) c.in-Some.ensures.steps
    ∙ ap (λ (b : Bool). b && list_all is_word c.next.new.self)
    (sym c.is_word.ensures ∙ c.if-not-is_word.false)

pub returns : goal.returns
unfolding words_of
returns c = ap Some c.of.ensures
    ∙ sym (ap (λ (b : Bool). cond b (Some (pieces_of c.args.line.now)) None)
    (c.loop-piece.invariant ∙ ap (list_all is_word) c.in-None.ensures.steps.0))
