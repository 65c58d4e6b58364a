use Rattle.std.proofs.Common.{List, OnOk, subst}
use Rattle.kx_page.specs.declared.run.Step.{Step}
use Rattle.kx_view.specs.Recording.{AddsStep}
use Rattle.kx_view.proofs.recorder.Recorder.add_request.Goals as goal

pub returns-clause-ok : goal.returns-clause-ok
returns-clause-ok c =
    subst (λ (steps : List Step). OnOk c.add.result (AddsStep steps c.add.new.self))
    c.self.view_is c.add.ensures.ok
