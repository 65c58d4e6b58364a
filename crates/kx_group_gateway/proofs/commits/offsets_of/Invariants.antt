use Rattle.std.proofs.Common.{◌≡◌, ◌++◌, drop}
use Rattle.kx_group_gateway.specs.Claims.{offsets_of}
use Rattle.kx_group_gateway.proofs.commits.offsets_of.Given as goal

abbrev pub invariant-loop-topic : goal.invariant-loop-topic
invariant-loop-topic l =
    offsets_of l.table l.topics ≡ l.offsets.items ++ offsets_of l.table (drop l.topic-index l.topics)
