-- What AddPartitionsToTxn, AddOffsetsToTxn and EndTxn answer.
use Rattle.std.specs.Prelude.{ℤ, pos, List, [], ◌∷◌, length, drop}
use Rattle.kx_kafka_types.specs.Rows.{Rows, elements}
use Rattle.kx_kafka_types.specs.Schema.{Int32, One, Values}
use Rattle.kx_kafka.specs.Layouts.{add_offsets_to_txn_response, add_partitions_to_txn_response}
use Rattle.kx_kafka.specs.Layouts.{end_txn_response, partition_error, topic_errors, topic_partition}

-- the numbers of a topic's partitions
abbrev pub indexes_in : Rows → List ℤ
indexes_in rows = elements (One Int32) rows

-- each partition with its code
abbrev pub coded : List ℤ → List ℤ → List (Values partition_error)
coded [] codes = []
coded (index ∷ indexes) [] = []
coded (index ∷ indexes) (code ∷ codes) = (index, (code, tt)) ∷ coded indexes codes

-- each topic that was listed, with the codes of its partitions, which follow those of the topics
-- before it
abbrev pub coded_topics : List (Values topic_partition) → List ℤ → List (Values topic_errors)
coded_topics [] codes = []
coded_topics (topic ∷ topics) codes =
    (topic.0, (coded topic.1.0 codes, tt)) ∷ coded_topics topics (drop (length topic.1.0) codes)

-- no throttling
abbrev pub added_partitions : List (Values topic_partition) → List ℤ
    → Values add_partitions_to_txn_response
added_partitions topics codes = (pos 0, (coded_topics topics codes, tt))

abbrev pub added_offsets : ℤ → Values add_offsets_to_txn_response
added_offsets code = (pos 0, (code, tt))

abbrev pub ended : ℤ → Values end_txn_response
ended code = (pos 0, (code, tt))
