use Rattle.std.proofs.Common.{◌≡◌, map, take}
use Rattle.kx_group_gateway.proofs.Values.{fetched_topic_values, topic_fetched_values}
use Rattle.kx_group_gateway.proofs.fetched.results_of.Given as goal

abbrev pub invariant-loop-topic : goal.invariant-loop-topic
invariant-loop-topic l =
    map topic_fetched_values l.results.items
    ≡ map fetched_topic_values (take l.topic-index l.topics)
