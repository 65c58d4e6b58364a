use Rattle.std.proofs.Common.{◌∙◌, List, ap, arith, length, length-append}
use Rattle.std.proofs.lemmas.Result.{on_ok_weaker}
use Rattle.kx_page.specs.declared.run.Step.{Step}
use Rattle.kx_watch.proofs.Counting.{has_steps}
use Rattle.kx_program.specs.Drawing.{rows_of}
use Rattle.kx_program.proofs.drawing.server_run.Goals as goal

pub returns : goal.returns
returns c =
    let rows = rows_of c.args.steps.now in
    let old = c.in_ok-watched.watched in
    has_steps rows c.take_all-taken.new.watched c.take_all-taken.result c.into_run.result
    (on_ok_weaker c.take_all-taken.result (λ adds.
    ap length adds.2 ∙ length-append old adds.0
    ∙ omega (arith, ap (λ (s : List Step). length s) c.in_ok-watched.ensures, adds.1))
    c.take_all-taken.ensures) c.into_run.ensures.steps c.into_run.ensures.ok
