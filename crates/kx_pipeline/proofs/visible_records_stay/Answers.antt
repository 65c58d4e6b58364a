use Rattle.kx_model.specs.World.{run, start}
use Rattle.kx_pipeline.proofs.VisibleStays.{visible_stays}
use Rattle.kx_pipeline.proofs.visible_records_stay.Goals as goal

pub returns : goal.returns
returns c count before after fits more q from next =
    visible_stays (run before (start count)) after q from next
    (c.logs_grow_as_they_are_judged.ensures count before fits q)
    (c.markers_agree.ensures count before fits)
