use Rattle.std.proofs.Common.{◌≡◌, ◌≤◌, ◌+◌, drop}
use Rattle.std.specs.Int.RustNames.{unsigned_abs}
use Rattle.kx_message.specs.Ranges.{data_partitions}
use Rattle.kx_gateway.specs.Topics.{partition_after, partitions_of}
use Rattle.kx_gateway.proofs.topics.Topics.partition.Given as goal

abbrev pub invariant-loop-topic : goal.invariant-loop-topic
invariant-loop-topic l = record {
  found : partition_after 0 l.self l.name (unsigned_abs l.index)
      ≡ partition_after l.before (drop l.topic-index l.self) l.name (unsigned_abs l.index);
  room : l.before + partitions_of (drop l.topic-index l.self) ≤ data_partitions;
}
