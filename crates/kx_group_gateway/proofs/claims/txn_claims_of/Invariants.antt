use Rattle.std.proofs.Common.{◌≡◌, ◌++◌, map}
use Rattle.kx_kafka_types.specs.Rows.{elements}
use Rattle.kx_kafka.specs.Layouts.{txn_offset_commit_topic}
use Rattle.kx_group_gateway.specs.Claims.{txn_claimed}
use Rattle.kx_group_gateway.proofs.claims.txn_claims_of.Given as goal

abbrev pub invariant-loop-topic : goal.invariant-loop-topic
invariant-loop-topic l = record {
  can : (goal.iterator-loop-topic).can_next l.topic-iterator;
  finite : (goal.iterator-loop-topic).is_finite l.topic-iterator;
  claims : map txn_claimed (elements txn_offset_commit_topic l.fn.topics)
      ≡ l.list.items ++ map txn_claimed (elements txn_offset_commit_topic l.topic-iterator);
}
