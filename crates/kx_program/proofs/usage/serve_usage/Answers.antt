use Rattle.std.proofs.Common.{codes, rules}
use Rattle.std.proofs.lemmas.Result.{IfOk-weaker}
use Rattle.clap.specs.Words.{new_app}
use Rattle.kx_program.proofs.Commands.{Makes, with_argument}
use Rattle.kx_program.proofs.usage.serve_usage.Goals as goal

pub returns : goal.returns
returns c =
    let made_0 : Makes c.about.result (new_app (codes "serve")) =
    record { is = search rules; local = search rules } in
    let made_1 = with_argument _ _ _ _ _ c.in_ok-arg.ensures made_0
    c.partitions.ensures.rule c.partitions.ensures.local in
    let made_2 = with_argument _ _ _ _ _ c.in_ok-arg-2.ensures made_1
    c.connections.ensures.rule c.connections.ensures.local in
    let made_3 = with_argument _ _ _ _ _ c.in_ok-arg-3.ensures made_2
    c.port.ensures.rule c.port.ensures.local in
    let made_4 = with_argument _ _ _ _ _ c.in_ok-arg-4.ensures made_3
    c.dir.ensures.rule c.dir.ensures.local in
    let made_5 = with_argument _ _ _ _ _ c.in_ok-arg-5.ensures made_4
    c.traces.ensures.rule c.traces.ensures.local in
    let made_6 = with_argument _ _ _ _ _ c.in_ok-arg-6.ensures made_5
    c.new_traces.ensures.rule c.new_traces.ensures.local in
    let made_7 = with_argument _ _ _ _ _ c.in_ok-arg-7.ensures made_6
    c.expire.ensures.rule c.expire.ensures.local in
    let made_8 = with_argument _ _ _ _ _ c.in_ok-arg-8.ensures made_7
    c.session_timeout.ensures.rule c.session_timeout.ensures.local in
    record {
      app = IfOk-weaker c.arg-9.result _ _ (λ command adds. (with_argument _ _ _ _ _ adds
          made_8 c.log.ensures.rule c.log.ensures.local).is) c.arg-9.ensures;
      local = IfOk-weaker c.arg-9.result _ _ (λ command adds. (with_argument _ _ _ _ _ adds
          made_8 c.log.ensures.rule c.log.ensures.local).local)
          c.arg-9.ensures;
    }
