use Rattle.std.proofs.Common.{◌∙◌, List, ap, subst}
use Rattle.std.specs.Prelude.{Err, IfOk, Ok, OnOk, Result, is_ok}
use Rattle.kx_page.specs.declared.run.Step.{Step}
use Rattle.kx_view.specs.Recording.{TellSame}
use Rattle.kx_watch.proofs.world.Watched.into_run.Goals as goal
use Rattle.kx_watch.proofs.world.Watched.into_run.Goals.{in-Ok, in-Err}

whatever : {T E P : Type 0} (result : Result T E) → P → OnOk result P
whatever (Ok done) p = p
whatever (Err failed) p = tt

-- the logs add no step to what was recorded
pub returns-in-Ok-added-clause-steps : goal.returns-in-Ok-added-clause-steps
returns-in-Ok-added-clause-steps c =
    subst (λ (steps : List Step). IfOk c.into_run.result (λ run. TellSame steps run.steps.items))
    (elim c.match-watched.branch [
      | in-Ok w ↦ w.recorder-is ∙ w.add_logs-added.ensures ∙ c.self.view_is
      | in-Err w ↦ w.recorder-is ∙ c.self.view_is
    ]) c.into_run.ensures.steps

pub returns-in-Ok-added-clause-ok : goal.returns-in-Ok-added-clause-ok
returns-in-Ok-added-clause-ok c =
    whatever c.into_run.result
    (elim c.match-watched.branch [
      | in-Ok w ↦ ap is_ok w.in-Ok.is
      | in-Err w ↦ absurd (cc (c.in-Ok-added.is, w.added-is))
    ])
