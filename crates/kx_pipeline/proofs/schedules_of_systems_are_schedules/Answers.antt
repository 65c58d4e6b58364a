use Rattle.kx_pipeline.proofs.SystemEvents.{schedules_fit}
use Rattle.kx_pipeline.proofs.schedules_of_systems_are_schedules.Goals as goal

pub returns : goal.returns
returns c = schedules_fit c.systems_run_as_worlds.ensures.step
