use Rattle.std.proofs.Common.{◌≡◌, ◌++◌, map}
use Rattle.kx_kafka_types.specs.Rows.{elements}
use Rattle.kx_kafka.specs.Layouts.{txn_offset_commit_partition}
use Rattle.kx_group_gateway.specs.Claims.{txn_claim}
use Rattle.kx_group_gateway.proofs.claims.txn_claims_in.Given as goal

abbrev pub invariant-loop-partition : goal.invariant-loop-partition
invariant-loop-partition l = record {
  can : (goal.iterator-loop-partition).can_next l.partition-iterator;
  finite : (goal.iterator-loop-partition).is_finite l.partition-iterator;
  claims : map txn_claim (elements txn_offset_commit_partition l.fn.partitions)
      ≡ l.claims.items ++ map txn_claim (elements txn_offset_commit_partition l.partition-iterator);
}
