-- The values of responses, as they are written.
use Rattle.std.proofs.Common.{map}
use Rattle.std.specs.Prelude.{option_map}
use Rattle.kx_kafka_types.specs.Schema.{Values}
use Rattle.kx_kafka.specs.declared.fetch.AbortedTransaction.{AbortedTransaction}
use Rattle.kx_kafka.specs.declared.fetch.FetchPartitionResponse.{FetchPartitionResponse}
use Rattle.kx_kafka.specs.declared.fetch.FetchableTopicResponse.{FetchableTopicResponse}
use Rattle.kx_kafka.specs.declared.list_offsets.ListOffsetsPartitionResponse.{ListOffsetsPartitionResponse}
use Rattle.kx_kafka.specs.declared.list_offsets.ListOffsetsTopicResponse.{ListOffsetsTopicResponse}
use Rattle.kx_kafka.specs.declared.metadata.MetadataResponsePartition.{MetadataResponsePartition}
use Rattle.kx_kafka.specs.declared.metadata.MetadataResponseTopic.{MetadataResponseTopic}
use Rattle.kx_kafka.specs.declared.produce.PartitionProduceResponse.{PartitionProduceResponse}
use Rattle.kx_kafka.specs.declared.produce.TopicProduceResponse.{TopicProduceResponse}
use Rattle.kx_kafka.specs.declared.topics.PartitionError.{PartitionError}
use Rattle.kx_kafka.specs.declared.topics.TopicErrors.{TopicErrors}
use Rattle.kx_kafka.specs.Layouts.{aborted_transaction, fetch_response_partition}
use Rattle.kx_kafka.specs.Layouts.{fetchable_topic_response, list_offsets_partition_response}
use Rattle.kx_kafka.specs.Layouts.{list_offsets_topic_response, metadata_response_partition}
use Rattle.kx_kafka.specs.Layouts.{metadata_response_topic, partition_produce_response}
use Rattle.kx_kafka.specs.Layouts.{partition_error, topic_errors, topic_produce_response}
use Rattle.kx_gateway.specs.declared.transactions.CodedTopic.{CodedTopic}

abbrev pub produced_values : PartitionProduceResponse → Values partition_produce_response
produced_values it = (it.index, (it.error_code, (it.base_offset, (it.log_append_time_ms, tt))))

abbrev pub topic_produced_values : TopicProduceResponse → Values topic_produce_response
topic_produced_values it = (it.name.now, (map produced_values it.partition_responses.now, tt))

abbrev pub aborted_values : AbortedTransaction → Values aborted_transaction
aborted_values it = (it.producer_id, (it.first_offset, tt))

abbrev pub fetched_values : FetchPartitionResponse → Values fetch_response_partition
fetched_values it = (
  it.partition_index,
  (
    it.error_code,
    (
      it.high_watermark,
      (
        it.last_stable_offset,
        (
          option_map (λ s. map aborted_values s.now) it.aborted_transactions,
          (option_map (λ s. s.now) it.records, tt),
        ),
      ),
    ),
  ),
)

abbrev pub topic_fetched_values : FetchableTopicResponse → Values fetchable_topic_response
topic_fetched_values it = (it.topic.now, (map fetched_values it.partitions.now, tt))

abbrev pub listed_values : ListOffsetsPartitionResponse → Values list_offsets_partition_response
listed_values it = (it.partition_index, (it.error_code, (it.timestamp, (it.offset, tt))))

abbrev pub topic_listed_values : ListOffsetsTopicResponse → Values list_offsets_topic_response
topic_listed_values it = (it.name.now, (map listed_values it.partitions.now, tt))

abbrev pub led_values : MetadataResponsePartition → Values metadata_response_partition
led_values it = (
  it.error_code,
  (
    it.partition_index,
    (
      it.leader_id,
      (
        map (λ n. n) it.replica_nodes.now,
        (map (λ n. n) it.isr_nodes.now, (map (λ n. n) it.offline_replicas.now, tt)),
      ),
    ),
  ),
)

abbrev pub named_values : MetadataResponseTopic → Values metadata_response_topic
named_values it =
    (it.error_code, (it.name.now, (it.is_internal, (map led_values it.partitions.now, tt))))

abbrev pub error_values : PartitionError → Values partition_error
error_values it = (it.partition_index, (it.error_code, tt))

abbrev pub coded_values : CodedTopic → Values topic_errors
coded_values it = (it.name.now, (map error_values it.errors.items, tt))

abbrev pub topic_error_values : TopicErrors → Values topic_errors
topic_error_values it = (it.name.now, (map error_values it.partitions.now, tt))
