use Rattle.std.proofs.Common.{codes, rules}
use Rattle.std.proofs.lemmas.Result.{IfOk-weaker}
use Rattle.clap.specs.Words.{new_app}
use Rattle.kx_program.proofs.Commands.{Makes, with_argument}
use Rattle.kx_program.proofs.usage.demo_usage.Goals as goal

pub returns : goal.returns
returns c =
    let made_0 : Makes c.about.result (new_app (codes "demo")) =
    record { is = search rules; local = search rules } in
    let made_1 = with_argument _ _ _ _ _ c.in_ok-arg.ensures made_0
    c.workers.ensures.rule c.workers.ensures.local in
    let made_2 = with_argument _ _ _ _ _ c.in_ok-arg-2.ensures made_1
    c.records.ensures.rule c.records.ensures.local in
    let made_3 = with_argument _ _ _ _ _ c.in_ok-arg-3.ensures made_2
    c.seed.ensures.rule c.seed.ensures.local in
    let made_4 = with_argument _ _ _ _ _ c.in_ok-arg-4.ensures made_3
    c.lose.ensures.rule c.lose.ensures.local in
    let made_5 = with_argument _ _ _ _ _ c.in_ok-arg-5.ensures made_4
    c.hold.ensures.rule c.hold.ensures.local in
    let made_6 = with_argument _ _ _ _ _ c.in_ok-arg-6.ensures made_5
    c.trace.ensures.rule c.trace.ensures.local in
    record {
      app = IfOk-weaker c.arg-7.result _ _ (λ command adds. (with_argument _ _ _ _ _ adds
          made_6 c.page.ensures.rule c.page.ensures.local).is) c.arg-7.ensures;
      local = IfOk-weaker c.arg-7.result _ _ (λ command adds. (with_argument _ _ _ _ _ adds
          made_6 c.page.ensures.rule c.page.ensures.local).local) c.arg-7.ensures;
    }
