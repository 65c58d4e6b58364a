-- The APIs that are spoken, their keys and versions (Kafka protocol guide, "API Keys"; KIP-482 for
-- flexible versions).
use Rattle.std.specs.Prelude.{ℕ, ℤ, pos, negsuc, List, [], ◌∷◌, Bool, true, false, Option, Some}
use Rattle.std.specs.Prelude.{None, nat_lt, ◌==◌, if◌then◌else◌}
use Rattle.std.specs.List.{find}
use Rattle.kx_kafka_types.specs.declared.version.Version.{Version}
use Rattle.kx_kafka_types.specs.Schema.{Fields}
use Rattle.kx_kafka.specs.declared.api_key.ApiKey.{ApiKey}
use Rattle.kx_kafka.specs.declared.api_key.ApiKey.TheVariants as api
use Rattle.kx_kafka.specs.declared.isolation.IsolationLevel.{IsolationLevel}
use Rattle.kx_kafka.specs.declared.isolation.IsolationLevel.TheVariants as level
use Rattle.kx_kafka.specs.Layouts as layout

abbrev pub number_of : ApiKey → ℕ
number_of api.Produce = 0
number_of api.Fetch = 1
number_of api.ListOffsets = 2
number_of api.Metadata = 3
number_of api.OffsetCommit = 8
number_of api.OffsetFetch = 9
number_of api.FindCoordinator = 10
number_of api.JoinGroup = 11
number_of api.Heartbeat = 12
number_of api.LeaveGroup = 13
number_of api.SyncGroup = 14
number_of api.ApiVersions = 18
number_of api.InitProducerId = 22
number_of api.AddPartitionsToTxn = 24
number_of api.AddOffsetsToTxn = 25
number_of api.EndTxn = 26
number_of api.TxnOffsetCommit = 28

abbrev pub all_keys : List ApiKey
all_keys =
    api.Produce ∷ api.Fetch ∷ api.ListOffsets ∷ api.Metadata ∷ api.OffsetCommit ∷ api.OffsetFetch
    ∷ api.FindCoordinator ∷ api.JoinGroup ∷ api.Heartbeat ∷ api.LeaveGroup ∷ api.SyncGroup
    ∷ api.ApiVersions ∷ api.InitProducerId ∷ api.AddPartitionsToTxn ∷ api.AddOffsetsToTxn
    ∷ api.EndTxn ∷ api.TxnOffsetCommit ∷ []

-- the API with this key
unfoldable pub key_with : ℤ → Option ApiKey
key_with (pos n) = find (λ key. number_of key == n) all_keys
key_with (negsuc n) = None

------ isolation levels (Kafka protocol guide, Fetch and ListOffsets, "isolation_level")

abbrev pub level_number : IsolationLevel → ℕ
level_number level.ReadUncommitted = 0
level_number level.ReadCommitted = 1

abbrev pub all_levels : List IsolationLevel
all_levels = level.ReadUncommitted ∷ level.ReadCommitted ∷ []

-- the level with this number
unfoldable pub level_with : ℤ → Option IsolationLevel
level_with (pos n) = find (λ l. level_number l == n) all_levels
level_with (negsuc n) = None

------ versions

-- the first and the last that are spoken, and every one between
abbrev pub first_version : ApiKey → ℕ
first_version api.Produce = 3
first_version api.Fetch = 4
first_version api.ListOffsets = 1
first_version api.Metadata = 0
first_version api.OffsetCommit = 1
first_version api.OffsetFetch = 1
first_version api.FindCoordinator = 0
first_version api.JoinGroup = 0
first_version api.Heartbeat = 0
first_version api.LeaveGroup = 0
first_version api.SyncGroup = 0
first_version api.ApiVersions = 0
first_version api.InitProducerId = 0
first_version api.AddPartitionsToTxn = 0
first_version api.AddOffsetsToTxn = 0
first_version api.EndTxn = 0
first_version api.TxnOffsetCommit = 0

abbrev pub last_version : ApiKey → ℕ
last_version api.Produce = 4
last_version api.Fetch = 4
last_version api.ListOffsets = 2
last_version api.Metadata = 5
last_version api.OffsetCommit = 2
last_version api.OffsetFetch = 7
last_version api.FindCoordinator = 1
last_version api.JoinGroup = 2
last_version api.Heartbeat = 1
last_version api.LeaveGroup = 1
last_version api.SyncGroup = 1
last_version api.ApiVersions = 0
last_version api.InitProducerId = 4
last_version api.AddPartitionsToTxn = 0
last_version api.AddOffsetsToTxn = 0
last_version api.EndTxn = 1
last_version api.TxnOffsetCommit = 3

-- the first that is flexible
abbrev pub flexible_from : ApiKey → Option ℕ
flexible_from api.Produce = None
flexible_from api.Fetch = None
flexible_from api.ListOffsets = None
flexible_from api.Metadata = None
flexible_from api.OffsetCommit = None
flexible_from api.OffsetFetch = Some 6
flexible_from api.FindCoordinator = None
flexible_from api.JoinGroup = None
flexible_from api.Heartbeat = None
flexible_from api.LeaveGroup = None
flexible_from api.SyncGroup = None
flexible_from api.ApiVersions = None
flexible_from api.InitProducerId = Some 2
flexible_from api.AddPartitionsToTxn = None
flexible_from api.AddOffsetsToTxn = None
flexible_from api.EndTxn = None
flexible_from api.TxnOffsetCommit = Some 3

abbrev pub is_from : Option ℕ → ℕ → Bool
is_from None n = false
is_from (Some first) n = if nat_lt n first then false else true

-- the version of an API with this number
unfoldable pub version_with : ApiKey → ℤ → Option Version
version_with key (pos n) =
    if nat_lt n (first_version key) then None
    else (if nat_lt (last_version key) n then None
    else Some (record { number = n; flexible = is_from (flexible_from key) n }))
version_with key (negsuc n) = None

------ layouts

abbrev pub request_fields : ApiKey → Fields
request_fields api.Produce = layout.produce_request
request_fields api.Fetch = layout.fetch_request
request_fields api.ListOffsets = layout.list_offsets_request
request_fields api.Metadata = layout.metadata_request
request_fields api.OffsetCommit = layout.offset_commit_request
request_fields api.OffsetFetch = layout.offset_fetch_request
request_fields api.FindCoordinator = layout.find_coordinator_request
request_fields api.JoinGroup = layout.join_group_request
request_fields api.Heartbeat = layout.heartbeat_request
request_fields api.LeaveGroup = layout.leave_group_request
request_fields api.SyncGroup = layout.sync_group_request
request_fields api.ApiVersions = layout.api_versions_request
request_fields api.InitProducerId = layout.init_producer_id_request
request_fields api.AddPartitionsToTxn = layout.add_partitions_to_txn_request
request_fields api.AddOffsetsToTxn = layout.add_offsets_to_txn_request
request_fields api.EndTxn = layout.end_txn_request
request_fields api.TxnOffsetCommit = layout.txn_offset_commit_request

abbrev pub response_fields : ApiKey → Fields
response_fields api.Produce = layout.produce_response
response_fields api.Fetch = layout.fetch_response
response_fields api.ListOffsets = layout.list_offsets_response
response_fields api.Metadata = layout.metadata_response
response_fields api.OffsetCommit = layout.offset_commit_response
response_fields api.OffsetFetch = layout.offset_fetch_response
response_fields api.FindCoordinator = layout.find_coordinator_response
response_fields api.JoinGroup = layout.join_group_response
response_fields api.Heartbeat = layout.heartbeat_response
response_fields api.LeaveGroup = layout.leave_group_response
response_fields api.SyncGroup = layout.sync_group_response
response_fields api.ApiVersions = layout.api_versions_response
response_fields api.InitProducerId = layout.init_producer_id_response
response_fields api.AddPartitionsToTxn = layout.add_partitions_to_txn_response
response_fields api.AddOffsetsToTxn = layout.add_offsets_to_txn_response
response_fields api.EndTxn = layout.end_txn_response
response_fields api.TxnOffsetCommit = layout.txn_offset_commit_response
