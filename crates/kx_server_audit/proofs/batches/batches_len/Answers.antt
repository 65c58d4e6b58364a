use Rattle.std.proofs.Common.{List, ap, arith, length}
use Rattle.kx_log.specs.Log.{texts}
use Rattle.kx_model.specs.Log.{Stored}
use Rattle.kx_server_audit.proofs.Texts.{len_with}
use Rattle.kx_server_audit.proofs.batches.batches_len.Goals as goal

pub loop-batch-smaller : goal.loop-batch-smaller
loop-batch-smaller c = omega (arith, ap length c.in-Some.ensures.steps)

pub loop-batch-preserved : goal.loop-batch-preserved
loop-batch-preserved c =
    let whole = len_with c.in-Some.batch c.next.new.self c.loop-batch.batch-iterator
    c.in-Some.ensures.steps in
    record {
      can_go = tt;
      ends = tt;
      sum = omega (
        arith,
        whole,
        ap length c.text.ensures,
        c.in_ok-len.ensures.1,
        c.loop-batch.invariant.sum,
      );
    }

pub returns : goal.returns
returns c =
    let none = ap (λ (l : List Stored). length (texts l)) c.in-None.ensures.steps.0 in
    omega (arith, none, c.loop-batch.invariant.sum)
