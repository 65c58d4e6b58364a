-- The requests and responses of each API, field by field, in the order and with the versions of the
-- Kafka protocol guide ("The Messages"). A field stands beside its name there.
use Rattle.std.specs.Prelude.{pos, negsuc, [], true, false, None}
use Rattle.kx_kafka_types.specs.Schema.{Boolean, Int8, Int16, Int32, Int64, Text, NullableText}
use Rattle.kx_kafka_types.specs.Schema.{Since, Fields, End, One, Array, NullableArray, ◌⨟◌}
use Rattle.kx_kafka_types.specs.Schema.{boolean, int8, int16, int32, int64, string}
use Rattle.kx_kafka_types.specs.Schema.{nullable_string, bytes, nullable_bytes, since, only, array}

------ in front of each request (key, version and correlation id of "Request Header v1" and "v2")

abbrev pub request_front : Fields
request_front =
    int16  -- request_api_key
    ⨟ int16  -- request_api_version
    ⨟ int32  -- correlation_id
    ⨟ End

------ ApiVersions (key 18), version 0

abbrev pub api_versions_request : Fields
api_versions_request = End

abbrev pub api_version : Fields
api_version =
    int16  -- api_key
    ⨟ int16  -- min_version
    ⨟ int16  -- max_version
    ⨟ End

abbrev pub api_versions_response : Fields
api_versions_response =
    int16  -- error_code
    ⨟ array api_version  -- api_keys
    ⨟ End

------ Metadata (key 3), versions 0 to 5

abbrev pub metadata_request_topic : Fields
metadata_request_topic =
    string  -- name
    ⨟ End

-- in version 0 no topics are all topics; from 1 on null is all, and none are none
abbrev pub metadata_request : Fields
metadata_request =
    NullableArray 1 metadata_request_topic  -- topics
    ⨟ since 4 Boolean true  -- allow_auto_topic_creation
    ⨟ End

abbrev pub metadata_response_broker : Fields
metadata_response_broker =
    int32  -- node_id
    ⨟ string  -- host
    ⨟ int32  -- port
    ⨟ since 1 NullableText None  -- rack
    ⨟ End

abbrev pub metadata_response_partition : Fields
metadata_response_partition =
    int16  -- error_code
    ⨟ int32  -- partition_index
    ⨟ int32  -- leader_id
    ⨟ array (One Int32)  -- replica_nodes
    ⨟ array (One Int32)  -- isr_nodes
    ⨟ Array (Since 5) (One Int32)  -- offline_replicas
    ⨟ End

abbrev pub metadata_response_topic : Fields
metadata_response_topic =
    int16  -- error_code
    ⨟ string  -- name
    ⨟ since 1 Boolean false  -- is_internal
    ⨟ array metadata_response_partition  -- partitions
    ⨟ End

abbrev pub metadata_response : Fields
metadata_response =
    since 3 Int32 (pos 0)  -- throttle_time_ms
    ⨟ array metadata_response_broker  -- brokers
    ⨟ since 2 NullableText None  -- cluster_id
    ⨟ since 1 Int32 (negsuc 0)  -- controller_id
    ⨟ array metadata_response_topic  -- topics
    ⨟ End

------ Produce (key 0), versions 3 and 4

abbrev pub partition_produce_data : Fields
partition_produce_data =
    int32  -- index
    ⨟ nullable_bytes  -- records
    ⨟ End

abbrev pub topic_produce_data : Fields
topic_produce_data =
    string  -- name
    ⨟ array partition_produce_data  -- partition_data
    ⨟ End

abbrev pub produce_request : Fields
produce_request =
    nullable_string  -- transactional_id
    ⨟ int16  -- acks
    ⨟ int32  -- timeout_ms
    ⨟ array topic_produce_data  -- topic_data
    ⨟ End

abbrev pub partition_produce_response : Fields
partition_produce_response =
    int32  -- index
    ⨟ int16  -- error_code
    ⨟ int64  -- base_offset
    ⨟ int64  -- log_append_time_ms
    ⨟ End

abbrev pub topic_produce_response : Fields
topic_produce_response =
    string  -- name
    ⨟ array partition_produce_response  -- partition_responses
    ⨟ End

abbrev pub produce_response : Fields
produce_response =
    array topic_produce_response  -- responses
    ⨟ int32  -- throttle_time_ms
    ⨟ End

------ Fetch (key 1), version 4

abbrev pub fetch_partition : Fields
fetch_partition =
    int32  -- partition
    ⨟ int64  -- fetch_offset
    ⨟ int32  -- partition_max_bytes
    ⨟ End

abbrev pub fetch_topic : Fields
fetch_topic =
    string  -- topic
    ⨟ array fetch_partition  -- partitions
    ⨟ End

abbrev pub fetch_request : Fields
fetch_request =
    int32  -- replica_id
    ⨟ int32  -- max_wait_ms
    ⨟ int32  -- min_bytes
    ⨟ int32  -- max_bytes
    ⨟ int8  -- isolation_level
    ⨟ array fetch_topic  -- topics
    ⨟ End

abbrev pub aborted_transaction : Fields
aborted_transaction =
    int64  -- producer_id
    ⨟ int64  -- first_offset
    ⨟ End

abbrev pub fetch_response_partition : Fields
fetch_response_partition =
    int32  -- partition_index
    ⨟ int16  -- error_code
    ⨟ int64  -- high_watermark
    ⨟ int64  -- last_stable_offset
    ⨟ NullableArray 4 aborted_transaction  -- aborted_transactions
    ⨟ nullable_bytes  -- records
    ⨟ End

abbrev pub fetchable_topic_response : Fields
fetchable_topic_response =
    string  -- topic
    ⨟ array fetch_response_partition  -- partitions
    ⨟ End

abbrev pub fetch_response : Fields
fetch_response =
    int32  -- throttle_time_ms
    ⨟ array fetchable_topic_response  -- responses
    ⨟ End

------ ListOffsets (key 2), versions 1 and 2

abbrev pub list_offsets_partition : Fields
list_offsets_partition =
    int32  -- partition_index
    ⨟ int64  -- timestamp
    ⨟ End

abbrev pub list_offsets_topic : Fields
list_offsets_topic =
    string  -- name
    ⨟ array list_offsets_partition  -- partitions
    ⨟ End

abbrev pub list_offsets_request : Fields
list_offsets_request =
    int32  -- replica_id
    ⨟ since 2 Int8 (pos 0)  -- isolation_level
    ⨟ array list_offsets_topic  -- topics
    ⨟ End

abbrev pub list_offsets_partition_response : Fields
list_offsets_partition_response =
    int32  -- partition_index
    ⨟ int16  -- error_code
    ⨟ int64  -- timestamp
    ⨟ int64  -- offset
    ⨟ End

abbrev pub list_offsets_topic_response : Fields
list_offsets_topic_response =
    string  -- name
    ⨟ array list_offsets_partition_response  -- partitions
    ⨟ End

abbrev pub list_offsets_response : Fields
list_offsets_response =
    since 2 Int32 (pos 0)  -- throttle_time_ms
    ⨟ array list_offsets_topic_response  -- topics
    ⨟ End

------ InitProducerId (key 22), versions 0 to 4, flexible from 2 on

abbrev pub init_producer_id_request : Fields
init_producer_id_request =
    nullable_string  -- transactional_id
    ⨟ int32  -- transaction_timeout_ms
    ⨟ since 3 Int64 (negsuc 0)  -- producer_id
    ⨟ since 3 Int16 (negsuc 0)  -- producer_epoch
    ⨟ End

abbrev pub init_producer_id_response : Fields
init_producer_id_response =
    int32  -- throttle_time_ms
    ⨟ int16  -- error_code
    ⨟ int64  -- producer_id
    ⨟ int16  -- producer_epoch
    ⨟ End

------ FindCoordinator (key 10), versions 0 and 1

abbrev pub find_coordinator_request : Fields
find_coordinator_request =
    string  -- key
    ⨟ since 1 Int8 (pos 0)  -- key_type
    ⨟ End

abbrev pub find_coordinator_response : Fields
find_coordinator_response =
    since 1 Int32 (pos 0)  -- throttle_time_ms
    ⨟ int16  -- error_code
    ⨟ since 1 NullableText None  -- error_message
    ⨟ int32  -- node_id
    ⨟ string  -- host
    ⨟ int32  -- port
    ⨟ End

------ a topic with partitions, as several APIs have it

abbrev pub topic_partition : Fields
topic_partition =
    string  -- name
    ⨟ array (One Int32)  -- partitions
    ⨟ End

abbrev pub partition_error : Fields
partition_error =
    int32  -- partition_index
    ⨟ int16  -- error_code
    ⨟ End

abbrev pub topic_errors : Fields
topic_errors =
    string  -- name
    ⨟ array partition_error  -- partitions
    ⨟ End

------ AddPartitionsToTxn (key 24), version 0

abbrev pub add_partitions_to_txn_request : Fields
add_partitions_to_txn_request =
    string  -- transactional_id
    ⨟ int64  -- producer_id
    ⨟ int16  -- producer_epoch
    ⨟ array topic_partition  -- topics
    ⨟ End

abbrev pub add_partitions_to_txn_response : Fields
add_partitions_to_txn_response =
    int32  -- throttle_time_ms
    ⨟ array topic_errors  -- results
    ⨟ End

------ AddOffsetsToTxn (key 25), version 0

abbrev pub add_offsets_to_txn_request : Fields
add_offsets_to_txn_request =
    string  -- transactional_id
    ⨟ int64  -- producer_id
    ⨟ int16  -- producer_epoch
    ⨟ string  -- group_id
    ⨟ End

abbrev pub add_offsets_to_txn_response : Fields
add_offsets_to_txn_response =
    int32  -- throttle_time_ms
    ⨟ int16  -- error_code
    ⨟ End

------ EndTxn (key 26), versions 0 and 1

abbrev pub end_txn_request : Fields
end_txn_request =
    string  -- transactional_id
    ⨟ int64  -- producer_id
    ⨟ int16  -- producer_epoch
    ⨟ boolean  -- committed
    ⨟ End

abbrev pub end_txn_response : Fields
end_txn_response =
    int32  -- throttle_time_ms
    ⨟ int16  -- error_code
    ⨟ End

------ TxnOffsetCommit (key 28), versions 0 to 3, flexible from 3 on

abbrev pub txn_offset_commit_partition : Fields
txn_offset_commit_partition =
    int32  -- partition_index
    ⨟ int64  -- committed_offset
    ⨟ since 2 Int32 (negsuc 0)  -- committed_leader_epoch
    ⨟ nullable_string  -- committed_metadata
    ⨟ End

abbrev pub txn_offset_commit_topic : Fields
txn_offset_commit_topic =
    string  -- name
    ⨟ array txn_offset_commit_partition  -- partitions
    ⨟ End

abbrev pub txn_offset_commit_request : Fields
txn_offset_commit_request =
    string  -- transactional_id
    ⨟ string  -- group_id
    ⨟ int64  -- producer_id
    ⨟ int16  -- producer_epoch
    ⨟ since 3 Int32 (negsuc 0)  -- generation_id
    ⨟ since 3 Text []  -- member_id
    ⨟ since 3 NullableText None  -- group_instance_id
    ⨟ array txn_offset_commit_topic  -- topics
    ⨟ End

abbrev pub txn_offset_commit_response : Fields
txn_offset_commit_response =
    int32  -- throttle_time_ms
    ⨟ array topic_errors  -- topics
    ⨟ End

------ OffsetCommit (key 8), versions 1 and 2

abbrev pub offset_commit_partition : Fields
offset_commit_partition =
    int32  -- partition_index
    ⨟ int64  -- committed_offset
    ⨟ only 1 Int64 (negsuc 0)  -- commit_timestamp
    ⨟ nullable_string  -- committed_metadata
    ⨟ End

abbrev pub offset_commit_topic : Fields
offset_commit_topic =
    string  -- name
    ⨟ array offset_commit_partition  -- partitions
    ⨟ End

abbrev pub offset_commit_request : Fields
offset_commit_request =
    string  -- group_id
    ⨟ int32  -- generation_id
    ⨟ string  -- member_id
    ⨟ since 2 Int64 (negsuc 0)  -- retention_time_ms
    ⨟ array offset_commit_topic  -- topics
    ⨟ End

abbrev pub offset_commit_response : Fields
offset_commit_response =
    array topic_errors  -- topics
    ⨟ End

------ OffsetFetch (key 9), versions 1 to 7, flexible from 6 on

-- no topics, which is null, are all topics
abbrev pub offset_fetch_request : Fields
offset_fetch_request =
    string  -- group_id
    ⨟ NullableArray 2 topic_partition  -- topics
    ⨟ since 7 Boolean false  -- require_stable
    ⨟ End

abbrev pub offset_fetch_partition : Fields
offset_fetch_partition =
    int32  -- partition_index
    ⨟ int64  -- committed_offset
    ⨟ since 5 Int32 (negsuc 0)  -- committed_leader_epoch
    ⨟ nullable_string  -- metadata
    ⨟ int16  -- error_code
    ⨟ End

abbrev pub offset_fetch_topic : Fields
offset_fetch_topic =
    string  -- name
    ⨟ array offset_fetch_partition  -- partitions
    ⨟ End

abbrev pub offset_fetch_response : Fields
offset_fetch_response =
    since 3 Int32 (pos 0)  -- throttle_time_ms
    ⨟ array offset_fetch_topic  -- topics
    ⨟ since 2 Int16 (pos 0)  -- error_code
    ⨟ End

------ JoinGroup (key 11), versions 0 to 2

abbrev pub join_group_protocol : Fields
join_group_protocol =
    string  -- name
    ⨟ bytes  -- metadata
    ⨟ End

abbrev pub join_group_request : Fields
join_group_request =
    string  -- group_id
    ⨟ int32  -- session_timeout_ms
    ⨟ since 1 Int32 (negsuc 0)  -- rebalance_timeout_ms
    ⨟ string  -- member_id
    ⨟ string  -- protocol_type
    ⨟ array join_group_protocol  -- protocols
    ⨟ End

abbrev pub join_group_member : Fields
join_group_member =
    string  -- member_id
    ⨟ bytes  -- metadata
    ⨟ End

abbrev pub join_group_response : Fields
join_group_response =
    since 2 Int32 (pos 0)  -- throttle_time_ms
    ⨟ int16  -- error_code
    ⨟ int32  -- generation_id
    ⨟ string  -- protocol_name
    ⨟ string  -- leader
    ⨟ string  -- member_id
    ⨟ array join_group_member  -- members
    ⨟ End

------ SyncGroup (key 14), versions 0 and 1

abbrev pub sync_group_assignment : Fields
sync_group_assignment =
    string  -- member_id
    ⨟ bytes  -- assignment
    ⨟ End

abbrev pub sync_group_request : Fields
sync_group_request =
    string  -- group_id
    ⨟ int32  -- generation_id
    ⨟ string  -- member_id
    ⨟ array sync_group_assignment  -- assignments
    ⨟ End

abbrev pub sync_group_response : Fields
sync_group_response =
    since 1 Int32 (pos 0)  -- throttle_time_ms
    ⨟ int16  -- error_code
    ⨟ bytes  -- assignment
    ⨟ End

------ Heartbeat (key 12), versions 0 and 1

abbrev pub heartbeat_request : Fields
heartbeat_request =
    string  -- group_id
    ⨟ int32  -- generation_id
    ⨟ string  -- member_id
    ⨟ End

abbrev pub heartbeat_response : Fields
heartbeat_response =
    since 1 Int32 (pos 0)  -- throttle_time_ms
    ⨟ int16  -- error_code
    ⨟ End

------ LeaveGroup (key 13), versions 0 and 1

abbrev pub leave_group_request : Fields
leave_group_request =
    string  -- group_id
    ⨟ string  -- member_id
    ⨟ End

abbrev pub leave_group_response : Fields
leave_group_response =
    since 1 Int32 (pos 0)  -- throttle_time_ms
    ⨟ int16  -- error_code
    ⨟ End
