use Rattle.std.proofs.Common.{List, subst}
use Rattle.kx_page.specs.declared.run.Step.{Step}
use Rattle.kx_view.specs.Recording.{AddsStep}
use Rattle.kx_watch.proofs.world.Watched.happen.Goals as goal

pub returns-clause-ok : goal.returns-clause-ok
returns-clause-ok c =
    subst (λ (steps : List Step). AddsStep steps c.record.new.recorder) c.self.view_is
    c.in_ok-record.ensures.ok
