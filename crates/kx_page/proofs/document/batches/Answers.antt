use Rattle.std.proofs.Common.{arith}
use Rattle.kx_page.specs.Page.{batch_in}
use Rattle.kx_page.specs.declared.run.LoggedBatch.{LoggedBatch}
use Rattle.kx_page.proofs.Flat.{all_done, one_more}
use Rattle.kx_page.proofs.document.batches.Goals as goal

pub loop-number-preserved : goal.loop-number-preserved
loop-number-preserved c =
    one_more {X = LoggedBatch} (λ batch. batch_in batch.0 batch.1) c.args.all.now 0 c.loop-number.number c.index-all-number.result
    c.args.out.now.items _ _ (omega arith) (omega arith) c.index-all-number.is c.loop-number.invariant
    c.in_ok-batch_in.ensures

pub returns : goal.returns
returns c =
    all_done {X = LoggedBatch} (λ batch. batch_in batch.0 batch.1) c.args.all.now c.loop-number.number c.args.out.now.items _ (omega arith)
    c.loop-number.invariant
