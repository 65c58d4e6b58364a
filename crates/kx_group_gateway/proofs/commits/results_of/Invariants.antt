use Rattle.std.proofs.Common.{◌≡◌, map, take}
use Rattle.kx_gateway.proofs.Values.{topic_error_values}
use Rattle.kx_group_gateway.proofs.Values.{coded_values}
use Rattle.kx_group_gateway.proofs.commits.results_of.Given as goal

abbrev pub invariant-loop-topic : goal.invariant-loop-topic
invariant-loop-topic l =
    map topic_error_values l.results.items ≡ map coded_values (take l.topic-index l.topics)
