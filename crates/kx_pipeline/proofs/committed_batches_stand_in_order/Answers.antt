use Rattle.kx_pipeline.proofs.WrittenBatches.{outputs_are_all}
use Rattle.kx_pipeline.proofs.committed_batches_stand_in_order.Goals as goal

pub returns : goal.returns
returns c = outputs_are_all
