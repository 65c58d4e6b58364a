use Rattle.std.proofs.Common.{◌≡◌, ◌++◌, map}
use Rattle.kx_kafka_types.specs.Rows.{elements}
use Rattle.kx_kafka.specs.Layouts.{topic_partition}
use Rattle.kx_gateway.specs.Transactions.{coded_topics}
use Rattle.kx_gateway.proofs.Values.{coded_values}
use Rattle.kx_gateway.proofs.transactions.coded_topics.Given as goal

abbrev pub invariant-loop-topic : goal.invariant-loop-topic
invariant-loop-topic l = record {
  can : (goal.iterator-loop-topic).can_next l.topic-iterator;
  finite : (goal.iterator-loop-topic).is_finite l.topic-iterator;
  coded : coded_topics (elements topic_partition l.fn.topics) l.fn.codes
      ≡ map coded_values l.list.items
      ++ coded_topics (elements topic_partition l.topic-iterator) l.rest;
}
