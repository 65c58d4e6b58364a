use Rattle.std.proofs.Common.{◌∙◌, ◌+◌, List, ap, length, zero-add}
use Rattle.std.proofs.lemmas.Result.{on_ok_weaker}
use Rattle.kx_page.specs.declared.run.Step.{Step}
use Rattle.kx_watch.proofs.Counting.{has_steps}
use Rattle.kx_watch.proofs.events.run_of_events.Goals as goal

pub returns-clause-steps : goal.returns-clause-steps
returns-clause-steps c =
    let count = length c.args.events.now in
    has_steps count c.watch_all-happened.new.watched c.watch_all-happened.result c.into_run.result
    (on_ok_weaker c.watch_all-happened.result (λ more. more
    ∙ ap (λ (steps : List Step). length steps + count) c.in_ok-watched.ensures ∙ zero-add count)
    c.watch_all-happened.ensures) c.into_run.ensures.steps c.into_run.ensures.ok
