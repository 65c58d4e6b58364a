-- The first partitions of a topic.
use Rattle.std.proofs.Common.{◌≡◌, ◌≤◌, ℕ, List, take, map, sym, ap, ◌∙◌}
use Rattle.std.specs.List.{range_with_len}
use Rattle.std.proofs.lemmas.List.{take-map}
use Rattle.std.proofs.lemmas.List.FromFn.{take-map-range_with_len}
use Rattle.kx_kafka.specs.declared.metadata.MetadataResponsePartition.{MetadataResponsePartition}
use Rattle.kx_gateway.specs.Metadata.{partition_values}
use Rattle.kx_gateway.proofs.Values.{led_values}

pub first_led : (partitions : List MetadataResponsePartition) (n k : ℕ) → k ≤ n
    → map led_values partitions ≡ map partition_values (range_with_len 0 n)
    → map led_values (take k partitions) ≡ map partition_values (range_with_len 0 k)
first_led partitions n k le e =
    sym (take-map led_values k partitions) ∙ ap (take k) e
    ∙ take-map-range_with_len partition_values 0 n k le
