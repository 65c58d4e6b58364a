use Rattle.std.proofs.Common.{◌≡◌, drop}
use Rattle.kx_gateway.specs.Topics.{count_of}
use Rattle.kx_gateway.proofs.topics.Topics.count_of.Given as goal

abbrev pub invariant-loop-topic : goal.invariant-loop-topic
invariant-loop-topic l = count_of l.self l.name ≡ count_of (drop l.topic-index l.self) l.name
