use Rattle.kx_pipeline.proofs.SystemImages.{system_writes_all}
use Rattle.kx_pipeline.proofs.outputs_are_images_of_all_that_was_read.Goals as goal

pub returns : goal.returns
returns c =
    system_writes_all c.logs_grow_as_they_are_judged.ensures c.systems_run_as_worlds.ensures.step
