use Rattle.std.proofs.Common.{◌≡◌, ◌≤◌, ◌++◌, length, drop, map}
use Rattle.kx_kafka_types.specs.Rows.{elements}
use Rattle.kx_kafka.specs.Layouts.{list_offsets_topic}
use Rattle.kx_gateway.specs.Answers.{answered}
use Rattle.kx_gateway.proofs.Values.{listed_values, topic_listed_values}
use Rattle.kx_gateway.proofs.offsets.by_topic.Given as goal

abbrev pub invariant-loop-topic : goal.invariant-loop-topic
invariant-loop-topic l = record {
  can : (goal.iterator-loop-topic).can_next l.topic-iterator;
  finite : (goal.iterator-loop-topic).is_finite l.topic-iterator;
  within : l.at ≤ length l.answers;
  dealt : answered (elements list_offsets_topic l.fn.topics) (map listed_values l.answers)
      ≡ map topic_listed_values l.responses.items
      ++ answered (elements list_offsets_topic l.topic-iterator)
      (drop l.at (map listed_values l.answers));
}
