use Rattle.std.proofs.Common.{◌≡◌, ◌++◌, map}
use Rattle.kx_kafka_types.specs.Rows.{elements}
use Rattle.kx_kafka.specs.Layouts.{offset_commit_partition}
use Rattle.kx_group_gateway.specs.Claims.{claim}
use Rattle.kx_group_gateway.proofs.claims.claims_in.Given as goal

abbrev pub invariant-loop-partition : goal.invariant-loop-partition
invariant-loop-partition l = record {
  can : (goal.iterator-loop-partition).can_next l.partition-iterator;
  finite : (goal.iterator-loop-partition).is_finite l.partition-iterator;
  claims : map claim (elements offset_commit_partition l.fn.partitions)
      ≡ l.claims.items ++ map claim (elements offset_commit_partition l.partition-iterator);
}
