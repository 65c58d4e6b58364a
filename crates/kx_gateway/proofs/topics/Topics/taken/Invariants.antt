use Rattle.std.proofs.Common.{◌≡◌, ◌≤◌, ◌+◌, drop}
use Rattle.kx_message.specs.Ranges.{data_partitions}
use Rattle.kx_gateway.specs.Topics.{partitions_of}
use Rattle.kx_gateway.proofs.topics.Topics.taken.Given as goal

abbrev pub invariant-loop-topic : goal.invariant-loop-topic
invariant-loop-topic l = record {
  counted : l.taken + partitions_of (drop l.topic-index l.self) ≡ partitions_of l.self;
  room : partitions_of l.self ≤ data_partitions;
}
