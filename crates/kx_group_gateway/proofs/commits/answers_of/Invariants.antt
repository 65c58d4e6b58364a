use Rattle.std.proofs.Common.{◌≡◌, map, take}
use Rattle.kx_group_gateway.specs.Claims.{answered_topic}
use Rattle.kx_group_gateway.proofs.Values.{coded_values}
use Rattle.kx_group_gateway.proofs.commits.answers_of.Given as goal

abbrev pub invariant-loop-topic : goal.invariant-loop-topic
invariant-loop-topic l =
    map coded_values l.list.items
    ≡ map (answered_topic l.table l.fn.code) (take l.topic-index l.topics)
