use Rattle.std.proofs.Common.{◌≡◌, ◌≤◌, ◌++◌, length, drop, map}
use Rattle.kx_kafka_types.specs.Rows.{elements}
use Rattle.kx_kafka.specs.Layouts.{topic_produce_data}
use Rattle.kx_gateway.specs.Answers.{answered}
use Rattle.kx_gateway.proofs.Values.{produced_values, topic_produced_values}
use Rattle.kx_gateway.proofs.produce.by_topic.Given as goal

abbrev pub invariant-loop-topic : goal.invariant-loop-topic
invariant-loop-topic l = record {
  can : (goal.iterator-loop-topic).can_next l.topic-iterator;
  finite : (goal.iterator-loop-topic).is_finite l.topic-iterator;
  within : l.at ≤ length l.answers;
  dealt : answered (elements topic_produce_data l.fn.topics) (map produced_values l.answers)
      ≡ map topic_produced_values l.responses.items
      ++ answered (elements topic_produce_data l.topic-iterator)
      (drop l.at (map produced_values l.answers));
}
