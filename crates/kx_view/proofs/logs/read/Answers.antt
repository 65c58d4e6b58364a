use Rattle.kx_view.proofs.Batches.{fewer_left}
use Rattle.kx_view.proofs.logs.read.Goals as goal

pub loop-batch-smaller : goal.loop-batch-smaller
loop-batch-smaller c =
    let found = c.in-Ok.ensures.found in
    fewer_left c.in-Ok.batch.batch c.in-Ok.batch.text c.loop-batch.rest.now c.in-Ok.behind.now
    found.0 found.1
