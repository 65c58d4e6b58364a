use Rattle.kx_pipeline.proofs.SystemLinks.{system_chained}
use Rattle.kx_pipeline.proofs.ranges_follow_one_another.Goals as goal

pub returns : goal.returns
returns c =
    system_chained c.logs_grow_as_they_are_judged.ensures c.systems_run_as_worlds.ensures.step
