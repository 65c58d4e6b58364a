-- What requests commit, and how each offset is answered.
use Rattle.std.specs.Prelude.{ℕ, ℤ, pos, List, [], ◌∷◌, ◌++◌, map, Option, Some, None}
use Rattle.kx_kafka_types.specs.Schema.{Values}
use Rattle.kx_kafka.specs.Layouts.{offset_commit_partition, offset_commit_topic, partition_error}
use Rattle.kx_kafka.specs.Layouts.{topic_errors, txn_offset_commit_partition}
use Rattle.kx_kafka.specs.Layouts.{txn_offset_commit_topic}
use Rattle.kx_message.specs.declared.payload.PartitionOffset.{PartitionOffset}
use Rattle.kx_gateway.specs.Codes.{unknown_partition}
use Rattle.kx_gateway.specs.Topics.{Entry, partition_at}
use Rattle.kx_group_gateway.specs.declared.claims.Claim.{Claim}

pub record Claimed : Type 0 where
  pub name : List ℕ
  pub claims : List Claim

-- the fields of a request that count
abbrev pub claim : Values offset_commit_partition → Claim
claim p = record { index = p.0; offset = p.1.0 }

abbrev pub claimed : Values offset_commit_topic → Claimed
claimed t = record { name = t.0; claims = map claim t.1.0 }

abbrev pub txn_claim : Values txn_offset_commit_partition → Claim
txn_claim p = record { index = p.0; offset = p.1.0 }

abbrev pub txn_claimed : Values txn_offset_commit_topic → Claimed
txn_claimed t = record { name = t.0; claims = map txn_claim t.1.0 }

------ what the core is asked

abbrev pub with_offset : Option ℕ → ℤ → List PartitionOffset → List PartitionOffset
with_offset None offset more = more
with_offset (Some partition) offset more =
    record { partition = partition; offset = offset } ∷ more

-- the offsets of a topic's partitions that are there
abbrev pub offsets_in : List Entry → List ℕ → List Claim → List PartitionOffset
offsets_in table name [] = []
offsets_in table name (c ∷ claims) =
    with_offset (partition_at table name c.index) c.offset (offsets_in table name claims)

abbrev pub offsets_of : List Entry → List Claimed → List PartitionOffset
offsets_of table [] = []
offsets_of table (t ∷ topics) = offsets_in table t.name t.claims ++ offsets_of table topics

------ how it is answered

-- a partition that isn't there is unknown; of all others the code is the core's
abbrev pub code_at : Option ℕ → ℤ → ℤ
code_at None code = pos unknown_partition
code_at (Some partition) code = code

abbrev pub answered_claim : List Entry → List ℕ → ℤ → Claim → Values partition_error
answered_claim table name code c = (c.index, (code_at (partition_at table name c.index) code, tt))

abbrev pub answered_topic : List Entry → ℤ → Claimed → Values topic_errors
answered_topic table code t = (t.name, (map (answered_claim table t.name code) t.claims, tt))
