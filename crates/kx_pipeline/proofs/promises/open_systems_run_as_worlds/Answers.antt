use Rattle.kx_pipeline.proofs.OpenSystems.{led_to}
use Rattle.kx_pipeline.proofs.promises.open_systems_run_as_worlds.Goals as goal

pub returns : goal.returns
returns c =
    led_to c.systems_run_as_worlds.ensures.step c.schedules_are_open_ones.ensures.run
    c.schedules_are_open_ones.ensures.fits c.open_schedules_go_on.ensures
