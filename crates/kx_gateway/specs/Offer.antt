-- The APIs that are served, in which versions.
use Rattle.std.specs.Prelude.{pos, List, [], ◌∷◌}
use Rattle.kx_kafka_types.specs.Schema.{Values}
use Rattle.kx_kafka.specs.declared.api_key.ApiKey.{ApiKey}
use Rattle.kx_kafka.specs.declared.api_key.ApiKey.TheVariants as api
use Rattle.kx_kafka.specs.Apis.{number_of, first_version, last_version}
use Rattle.kx_kafka.specs.Layouts.{api_version}

abbrev pub offered : List ApiKey
offered =
    api.Produce ∷ api.Fetch ∷ api.ListOffsets ∷ api.Metadata ∷ api.OffsetCommit ∷ api.OffsetFetch ∷ api.FindCoordinator ∷ api.JoinGroup ∷ api.Heartbeat ∷ api.LeaveGroup ∷ api.SyncGroup ∷ api.ApiVersions ∷ api.InitProducerId ∷ api.AddPartitionsToTxn ∷ api.AddOffsetsToTxn ∷ api.EndTxn ∷ api.TxnOffsetCommit ∷ []

-- its number, and from which version it is spoken up to which
abbrev pub range_of : ApiKey → Values api_version
range_of key =
    (pos (number_of key), (pos (first_version key), (pos (last_version key), tt)))
