use Rattle.std.proofs.Common.{◌≡◌, ◌≤◌, ◌++◌, length, drop, map}
use Rattle.kx_kafka_types.specs.Rows.{elements}
use Rattle.kx_kafka.specs.Layouts.{fetch_topic}
use Rattle.kx_gateway.specs.Answers.{answered}
use Rattle.kx_gateway.proofs.Values.{fetched_values, topic_fetched_values}
use Rattle.kx_gateway.proofs.fetch.by_topic.Given as goal

abbrev pub invariant-loop-topic : goal.invariant-loop-topic
invariant-loop-topic l = record {
  can : (goal.iterator-loop-topic).can_next l.topic-iterator;
  finite : (goal.iterator-loop-topic).is_finite l.topic-iterator;
  within : l.at ≤ length l.answers;
  dealt : answered (elements fetch_topic l.fn.topics) (map fetched_values l.answers)
      ≡ map topic_fetched_values l.responses.items
      ++ answered (elements fetch_topic l.topic-iterator)
      (drop l.at (map fetched_values l.answers));
}
