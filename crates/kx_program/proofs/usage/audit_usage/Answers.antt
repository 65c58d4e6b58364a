use Rattle.std.proofs.Common.{codes, rules}
use Rattle.std.proofs.lemmas.Result.{IfOk-weaker}
use Rattle.clap.specs.Words.{new_app}
use Rattle.kx_program.proofs.Commands.{Makes, with_argument}
use Rattle.kx_program.proofs.usage.audit_usage.Goals as goal

pub returns : goal.returns
returns c =
    let made_0 : Makes c.about.result (new_app (codes "audit")) =
    record { is = search rules; local = search rules } in
    let made_1 = with_argument _ _ _ _ _ c.in_ok-arg.ensures made_0
    c.audited.ensures.rule c.audited.ensures.local in
    let made_2 = with_argument _ _ _ _ _ c.in_ok-arg-2.ensures made_1
    c.logs.ensures.rule c.logs.ensures.local in
    record {
      app = IfOk-weaker c.arg-3.result _ _ (λ command adds. (with_argument _ _ _ _ _ adds
          made_2 c.page.ensures.rule c.page.ensures.local).is) c.arg-3.ensures;
      local = IfOk-weaker c.arg-3.result _ _ (λ command adds. (with_argument _ _ _ _ _ adds
          made_2 c.page.ensures.rule c.page.ensures.local).local) c.arg-3.ensures;
    }
