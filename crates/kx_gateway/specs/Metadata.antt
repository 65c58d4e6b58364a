-- What Metadata and FindCoordinator answer: one broker, which leads every partition.
use Rattle.std.specs.Prelude.{ℕ, ℤ, pos, List, [], ◌∷◌, Bool, true, false, Option, Some}
use Rattle.std.specs.Prelude.{None, ◌==◌, map, codes}
use Rattle.std.specs.List.{range_with_len}
use Rattle.kx_kafka_types.specs.declared.version.Version.{Version}
use Rattle.kx_kafka_types.specs.Schema.{Values}
use Rattle.kx_kafka.specs.Layouts.{metadata_request_topic, metadata_response_broker}
use Rattle.kx_kafka.specs.Layouts.{metadata_response_partition, metadata_response_topic}
use Rattle.kx_kafka.specs.Layouts.{find_coordinator_response, metadata_response}
use Rattle.kx_gateway.specs.declared.metadata.TopicAnswer.{TopicAnswer}
use Rattle.kx_gateway.specs.declared.metadata.TopicAnswer.TheVariants.{Partitions, Refused}

-- in version 0 no topics are all topics; from 1 on null is all, and none are none
abbrev pub asks_all : Version → Option (List (Values metadata_request_topic)) → Bool
asks_all version None = true
asks_all version (Some []) = version.number == 0
asks_all version (Some (topic ∷ topics)) = false

abbrev pub node_id : ℤ
node_id = pos 1

abbrev pub cluster_id : List ℕ
cluster_id = codes "mokeupahi"

-- no rack
abbrev pub broker_values : List ℕ → ℕ → Values metadata_response_broker
broker_values host port = (node_id, (host, (pos port, (None, tt))))

-- the broker leads it, and has its only copy
abbrev pub partition_values : ℕ → Values metadata_response_partition
partition_values index =
    (pos 0, (pos index, (node_id, (node_id ∷ [], (node_id ∷ [], ([], tt))))))

abbrev pub code_of : TopicAnswer → ℤ
code_of (Partitions count) = pos 0
code_of (Refused code) = code

abbrev pub count_of : TopicAnswer → ℕ
count_of (Partitions count) = count
count_of (Refused code) = 0

abbrev pub topic_values : List ℕ → TopicAnswer → Values metadata_response_topic
topic_values name answer =
    let partitions = map partition_values (range_with_len 0 (count_of answer)) in
    (code_of answer, (name, (false, (partitions, tt))))

-- no throttling; the broker is the controller
abbrev pub metadata_values : List (Values metadata_response_broker)
    → List (Values metadata_response_topic) → Values metadata_response
metadata_values brokers topics =
    (pos 0, (brokers, (Some cluster_id, (node_id, (topics, tt)))))

-- no throttling, no error: the broker
abbrev pub coordinator_values : List ℕ → ℕ → Values find_coordinator_response
coordinator_values host port = (pos 0, (pos 0, (None, (node_id, (host, (pos port, tt))))))
