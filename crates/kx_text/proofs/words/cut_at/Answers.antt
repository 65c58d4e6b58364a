use Rattle.std.proofs.Common.{◌+◌, ◌-◌, ℕ, Some, length, drop, ap, ◌∙◌, add-one, arith}
use Rattle.std.proofs.lemmas.List.{take_all, length-drop}
use Rattle.kx_text.proofs.Cuts.{is_first, is_whole}
use Rattle.kx_text.proofs.words.cut_at.Goals as goal

pub returns-then-b-byte-clause-front : goal.returns-then-b-byte-clause-front
returns-then-b-byte-clause-front c = (is_first c.args.byte c.args.text.now c.loop-i.i
    c.loop-i-test.true c.loop-i.invariant c.if-b-byte.true).front

pub returns-then-b-byte-clause-rest : goal.returns-then-b-byte-clause-rest
returns-then-b-byte-clause-rest c =
    let text = c.args.text.now in
    let h = (is_first c.args.byte text c.loop-i.i
    c.loop-i-test.true c.loop-i.invariant c.if-b-byte.true).rest in
    ap Some (take_all (length text - (c.loop-i.i + 1)) (drop (c.loop-i.i + 1) text)
    (omega (arith, length-drop (c.loop-i.i + 1) text)))
    ∙ ap (λ (n : ℕ). Some (drop n text)) (add-one c.loop-i.i) ∙ h

pub returns-clause-front : goal.returns-clause-front
returns-clause-front c = (is_whole c.args.byte c.args.text.now
    (λ k b. c.loop-i.invariant k (omega arith))).front

pub returns-clause-rest : goal.returns-clause-rest
returns-clause-rest c = (is_whole c.args.byte c.args.text.now
    (λ k b. c.loop-i.invariant k (omega arith))).rest
