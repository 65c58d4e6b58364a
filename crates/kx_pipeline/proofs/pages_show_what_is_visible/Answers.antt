use Rattle.kx_model.specs.Open.{open_run}
use Rattle.kx_model.specs.World.{start}
use Rattle.kx_pipeline.proofs.PublishedPages.{shows_visible}
use Rattle.kx_pipeline.proofs.pages_show_what_is_visible.Goals as goal

pub returns : goal.returns
returns c = λ count events fits partition log begins from room got is.
    shows_visible (open_run events (start count)) partition log
    (c.logs_grow_as_they_are_judged_whoever_asks.ensures count events fits partition) begins from
    room got is (c.markers_agree_whoever_asks.ensures count events fits)
