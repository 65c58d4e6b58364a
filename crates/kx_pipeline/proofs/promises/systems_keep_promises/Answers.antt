use Rattle.std.proofs.Common.{subst}
use Rattle.kx_pipeline.specs.Promises.{KeepsPromises}
use Rattle.kx_system.specs.Events.{schedule_of}
use Rattle.kx_system.specs.System.{start_system}
use Rattle.kx_pipeline.proofs.promises.systems_keep_promises.Goals as goal

-- a system's world is the run of a schedule
pub returns : goal.returns
returns c count events fits =
    let s = start_system count in record {
      promises = subst KeepsPromises (c.systems_run_as_worlds.ensures.schedule events s)
          (c.schedules_keep_promises.ensures count (schedule_of events s)
          (c.schedules_of_systems_are_schedules.ensures count events fits));
      pipelines = λ group inputs image is q. record {
        chained =
            c.ranges_follow_one_another.ensures count events fits group inputs image is q;
        writes =
            c.transactions_write_images.ensures count events fits group inputs image is q;
        once = c.outputs_are_images_of_all_that_was_read.ensures count events fits group inputs
            image is q;
      };
    }
