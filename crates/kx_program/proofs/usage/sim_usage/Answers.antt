use Rattle.std.proofs.Common.{codes, rules}
use Rattle.std.proofs.lemmas.Result.{IfOk-weaker}
use Rattle.clap.specs.Words.{new_app}
use Rattle.kx_program.proofs.Commands.{Makes, with_argument}
use Rattle.kx_program.proofs.usage.sim_usage.Goals as goal

pub returns : goal.returns
returns c =
    let made_0 : Makes c.about.result (new_app (codes "sim")) =
    record { is = search rules; local = search rules } in
    let made_1 = with_argument _ _ _ _ _ c.in_ok-arg.ensures made_0
    c.page.ensures.rule c.page.ensures.local in
    record {
      app = IfOk-weaker c.arg-2.result _ _ (λ command adds. (with_argument _ _ _ _ _ adds
          made_1 c.svg.ensures.rule c.svg.ensures.local).is) c.arg-2.ensures;
      local = IfOk-weaker c.arg-2.result _ _ (λ command adds. (with_argument _ _ _ _ _ adds
          made_1 c.svg.ensures.rule c.svg.ensures.local).local) c.arg-2.ensures;
    }
