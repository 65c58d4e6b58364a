use Rattle.kx_system.proofs.SystemWorlds.{schedule_follows, step_follows}
use Rattle.kx_system.proofs.systems_run_as_worlds.Goals as goal

pub returns-clause-step : goal.returns-clause-step
returns-clause-step c = step_follows

pub returns-clause-schedule : goal.returns-clause-schedule
returns-clause-schedule c = schedule_follows
