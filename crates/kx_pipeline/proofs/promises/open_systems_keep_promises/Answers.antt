use Rattle.kx_model.specs.OpenHeadline.{KeepsOpenPromises}
use Rattle.kx_pipeline.proofs.OpenSystems.{holds_of_systems}
use Rattle.kx_pipeline.proofs.promises.open_systems_keep_promises.Goals as goal

pub returns : goal.returns
returns c =
    holds_of_systems c.systems_run_as_worlds.ensures.step c.schedules_are_open_ones.ensures.run
    c.schedules_are_open_ones.ensures.fits c.open_schedules_go_on.ensures KeepsOpenPromises
    c.open_promises_are_kept.ensures
