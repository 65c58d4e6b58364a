use Rattle.std.proofs.Common.{◌∙◌, sym}
use Rattle.kx_server_audit.proofs.Texts.{agree, differ, firsts_agree, rests_agree, texts_agree}
use Rattle.kx_server_audit.proofs.batches.same_batches.Goals as goal

pub returns-then-ne : goal.returns-then-ne
returns-then-ne c = λ same.
    let e = firsts_agree c.in-Some.batch c.in-Some-next.other c.next.new.self
    c.next-in-Some.new.self c.loop-batch.left c.loop-batch.right c.in-Some.ensures.steps
    c.in-Some-next.ensures.steps (c.loop-batch.invariant.only same) in
    differ c.text.result.now c.text-in-Some.result.now c.ne.result c.ne.ensures c.if-ne.true
    (c.text.ensures ∙ e ∙ sym c.text-in-Some.ensures)

pub loop-batch-preserved : goal.loop-batch-preserved
loop-batch-preserved c =
    let x = c.in-Some.batch in
    let y = c.in-Some-next.other in
    let a = c.next.new.self in
    let b = c.next-in-Some.new.self in
    let l = c.loop-batch.left in
    let r = c.loop-batch.right in
    let e = agree c.text.result.now c.text-in-Some.result.now c.ne.result c.ne.ensures
    c.if-ne.false in
    record {
      can_go = tt;
      ends = tt;
      same = λ h. c.loop-batch.invariant.same (texts_agree x y a b l r c.in-Some.ensures.steps
          c.in-Some-next.ensures.steps (sym c.text.ensures ∙ e ∙ c.text-in-Some.ensures) h);
      only = λ h. rests_agree x y a b l r c.in-Some.ensures.steps c.in-Some-next.ensures.steps
          (c.loop-batch.invariant.only h);
    }
