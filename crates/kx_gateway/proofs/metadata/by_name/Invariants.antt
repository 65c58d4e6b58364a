use Rattle.std.proofs.Common.{◌≡◌, map, take}
use Rattle.kx_gateway.specs.Metadata.{topic_values}
use Rattle.kx_gateway.specs.declared.metadata.NamedTopic.{NamedTopic}
use Rattle.kx_gateway.proofs.Values.{named_values}
use Rattle.kx_gateway.proofs.metadata.by_name.Given as goal

abbrev pub invariant-loop-topic : goal.invariant-loop-topic
invariant-loop-topic l =
    map named_values l.named.items
    ≡ map (λ (t : NamedTopic). topic_values t.name.now t.answer) (take l.topic-index l.topics)
