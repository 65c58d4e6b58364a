-- The values of responses, as they are written.
use Rattle.std.proofs.Common.{map}
use Rattle.std.specs.Prelude.{option_map}
use Rattle.kx_kafka_types.specs.Schema.{Values}
use Rattle.kx_kafka.specs.declared.offsets.OffsetFetchPartition.{OffsetFetchPartition}
use Rattle.kx_kafka.specs.declared.offsets.OffsetFetchTopic.{OffsetFetchTopic}
use Rattle.kx_kafka.specs.Layouts.{offset_fetch_partition, offset_fetch_topic, topic_errors}
use Rattle.kx_gateway.proofs.Values.{error_values}
use Rattle.kx_group_gateway.specs.declared.commits.CodedTopic.{CodedTopic}
use Rattle.kx_group_gateway.specs.declared.fetched.FetchedTopic.{FetchedTopic}

abbrev pub coded_values : CodedTopic → Values topic_errors
coded_values it = (it.name.now, (map error_values it.errors.items, tt))

abbrev pub fetched_values : OffsetFetchPartition → Values offset_fetch_partition
fetched_values it = (
  it.partition_index,
  (
    it.committed_offset,
    (
      it.committed_leader_epoch,
      (option_map (λ s. s.now) it.metadata, (it.error_code, tt)),
    ),
  ),
)

abbrev pub topic_fetched_values : OffsetFetchTopic → Values offset_fetch_topic
topic_fetched_values it = (it.name.now, (map fetched_values it.partitions.now, tt))

abbrev pub fetched_topic_values : FetchedTopic → Values offset_fetch_topic
fetched_topic_values it = (it.name.now, (map fetched_values it.answers.items, tt))
