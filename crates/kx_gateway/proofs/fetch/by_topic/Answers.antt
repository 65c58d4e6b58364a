use Rattle.std.proofs.Common.{◌≡◌, ◌++◌, ◌+◌, ◌-◌, ◌∙◌, List, length, drop, map, sym, ap, arith}
use Rattle.std.specs.Prelude.{min}
use Rattle.std.proofs.lemmas.List.{map-append}
use Rattle.kx_kafka_types.specs.Rows.{elements}
use Rattle.kx_kafka_types.specs.Schema.{Values}
use Rattle.kx_kafka.specs.Layouts.{fetch_topic, fetch_partition}
use Rattle.kx_kafka.specs.Layouts.{fetchable_topic_response}
use Rattle.kx_gateway.specs.Answers.{answered}
use Rattle.kx_gateway.proofs.Dealt.{dealt_more}
use Rattle.kx_gateway.proofs.Values.{fetched_values, topic_fetched_values}
use Rattle.kx_gateway.proofs.fetch.by_topic.Goals as goal

pub loop-topic-preserved : goal.loop-topic-preserved
loop-topic-preserved c =
    let answers = c.args.answers.now in
    let at = c.loop-topic.at in
    let end = at + c.min.result in
    let topic : Values fetch_topic = (
      c.in-Some.topic.topic.now,
      (elements fetch_partition c.in-Some.topic.partitions, tt),
    ) in
    let size : end ≡ at + min (length topic.1.0) (length answers - at) =
    ap (λ k. at + k) (c.min.ensures
    ∙ ap (λ k. min k (length answers - at)) c.len-in-loop-topic.ensures) in
    let done = c.loop-topic.responses.items in
    record {
      can = tt;
      finite = tt;
      within = omega arith;
      dealt =
          dealt_more fetched_values answers at end topic
          (elements fetch_topic c.loop-topic.topic-iterator)
          (elements fetch_topic c.next.new.self) (map topic_fetched_values done)
          (answered (elements fetch_topic c.args.topics) (map fetched_values answers))
          c.loop-topic.invariant.dealt c.in-Some.ensures.steps size
          ∙ ap (λ (x : List (Values fetchable_topic_response)). x
          ++ answered (elements fetch_topic c.next.new.self)
          (drop end (map fetched_values answers)))
          (sym (ap (map topic_fetched_values) c.in_ok-push.ensures.items
          ∙ map-append topic_fetched_values done _));
    }
