use Rattle.kx_pipeline.proofs.SystemImages.{system_writes}
use Rattle.kx_pipeline.proofs.transactions_write_images.Goals as goal

pub returns : goal.returns
returns c =
    system_writes c.logs_grow_as_they_are_judged.ensures c.systems_run_as_worlds.ensures.step
