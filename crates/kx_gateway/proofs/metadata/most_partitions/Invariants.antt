use Rattle.std.proofs.Common.{◌≤◌, take}
use Rattle.std.specs.Prelude.{All}
use Rattle.kx_gateway.specs.Metadata.{count_of}
use Rattle.kx_gateway.proofs.metadata.most_partitions.Given as goal

abbrev pub invariant-loop-topic : goal.invariant-loop-topic
invariant-loop-topic l = All (λ t. count_of t.answer ≤ l.most) (take l.topic-index l.topics)
