use Rattle.std.proofs.Common.{codes}
use Rattle.std.proofs.lemmas.Result.{IfOk-weaker}
use Rattle.clap.specs.Words.{new_app}
use Rattle.kx_program.proofs.Commands.{Makes, with_argument}
use Rattle.kx_program.proofs.usage.kafka_usage.Goals as goal

pub returns : goal.returns
returns c =
    let made_0 : Makes c.about.result (new_app (codes "kafka")) = record {
      is = rw c.about.ensures c.new.ensures.app;
      local = rw c.about.ensures c.new.ensures.local;
    } in
    let made_1 = with_argument _ _ _ _ _ c.in_ok-arg.ensures made_0
    c.topics.ensures.rule c.topics.ensures.local in
    let made_2 = with_argument _ _ _ _ _ c.in_ok-arg-2.ensures made_1
    c.kafka_port.ensures.rule c.kafka_port.ensures.local in
    let made_3 = with_argument _ _ _ _ _ c.in_ok-arg-3.ensures made_2
    c.advertise.ensures.rule c.advertise.ensures.local in
    let made_4 = with_argument _ _ _ _ _ c.in_ok-arg-4.ensures made_3
    c.dir.ensures.rule c.dir.ensures.local in
    let made_5 = with_argument _ _ _ _ _ c.in_ok-arg-5.ensures made_4
    c.traces.ensures.rule c.traces.ensures.local in
    let made_6 = with_argument _ _ _ _ _ c.in_ok-arg-6.ensures made_5
    c.new_traces.ensures.rule c.new_traces.ensures.local in
    let made_7 = with_argument _ _ _ _ _ c.in_ok-arg-7.ensures made_6
    c.auto_topics.ensures.rule c.auto_topics.ensures.local in
    let made_8 = with_argument _ _ _ _ _ c.in_ok-arg-8.ensures made_7
    c.no_auto_topics.ensures.rule c.no_auto_topics.ensures.local in
    let made_9 = with_argument _ _ _ _ _ c.in_ok-arg-9.ensures made_8
    c.idle.ensures.rule c.idle.ensures.local in
    let made_10 = with_argument _ _ _ _ _ c.in_ok-arg-10.ensures made_9
    c.log.ensures.rule c.log.ensures.local in
    record {
      app = IfOk-weaker c.arg-11.result _ _ (λ command adds. (with_argument _ _ _ _ _ adds
          made_10 c.no_log.ensures.rule c.no_log.ensures.local).is) c.arg-11.ensures;
      local = IfOk-weaker c.arg-11.result _ _ (λ command adds. (with_argument _ _ _ _ _ adds
          made_10 c.no_log.ensures.rule c.no_log.ensures.local).local)
          c.arg-11.ensures;
    }
