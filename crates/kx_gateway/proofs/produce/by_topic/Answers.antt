use Rattle.std.proofs.Common.{◌≡◌, ◌++◌, ◌+◌, ◌-◌, ◌∙◌, List, length, drop, map, sym, ap, arith}
use Rattle.std.specs.Prelude.{min}
use Rattle.std.proofs.lemmas.List.{map-append}
use Rattle.kx_kafka_types.specs.Rows.{elements}
use Rattle.kx_kafka_types.specs.Schema.{Values}
use Rattle.kx_kafka.specs.Layouts.{topic_produce_data, partition_produce_data}
use Rattle.kx_kafka.specs.Layouts.{topic_produce_response}
use Rattle.kx_gateway.specs.Answers.{answered}
use Rattle.kx_gateway.proofs.Dealt.{dealt_more}
use Rattle.kx_gateway.proofs.Values.{produced_values, topic_produced_values}
use Rattle.kx_gateway.proofs.produce.by_topic.Goals as goal

pub loop-topic-preserved : goal.loop-topic-preserved
loop-topic-preserved c =
    let answers = c.args.answers.now in
    let at = c.loop-topic.at in
    let end = at + c.min.result in
    let topic : Values topic_produce_data = (
      c.in-Some.topic.name.now,
      (elements partition_produce_data c.in-Some.topic.partition_data, tt),
    ) in
    let size : end ≡ at + min (length topic.1.0) (length answers - at) =
    ap (λ k. at + k) (c.min.ensures
    ∙ ap (λ k. min k (length answers - at)) c.len-in-loop-topic.ensures) in
    let done = c.loop-topic.responses.items in
    record {
      can = tt;
      finite = tt;
      within = omega arith;
      dealt =
          dealt_more produced_values answers at end topic
          (elements topic_produce_data c.loop-topic.topic-iterator)
          (elements topic_produce_data c.next.new.self) (map topic_produced_values done)
          (answered (elements topic_produce_data c.args.topics) (map produced_values answers))
          c.loop-topic.invariant.dealt c.in-Some.ensures.steps size
          ∙ ap (λ (x : List (Values topic_produce_response)). x
          ++ answered (elements topic_produce_data c.next.new.self)
          (drop end (map produced_values answers)))
          (sym (ap (map topic_produced_values) c.in_ok-push.ensures.items
          ∙ map-append topic_produced_values done _));
    }
