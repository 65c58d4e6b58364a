use Rattle.std.proofs.Common.{◌∙◌, ◌++◌, ◌∷◌, [], ap, map, arith, length, List, sym}
use Rattle.std.proofs.lemmas.List.{map-append, length-append}
use Rattle.std.proofs.lemmas.List.FromFn.{map-range_with_len_more}
use Rattle.std.specs.List.{range_with_len}
use Rattle.kx_kafka_types.specs.Schema.{Values}
use Rattle.kx_kafka.specs.Layouts.{metadata_response_partition}
use Rattle.kx_gateway.specs.Metadata.{partition_values}
use Rattle.kx_gateway.proofs.Values.{led_values}
use Rattle.kx_gateway.proofs.metadata.led.Goals as goal

pub loop-index-preserved : goal.loop-index-preserved
loop-index-preserved c =
    let i = c.loop-index.index in
    let done = c.loop-index.partitions.items in
    let r = c.led_partition.result in
    record {
      counted = omega (
        arith,
        ap length c.in_ok-push.ensures.items,
        length-append done (r ∷ []),
        c.loop-index.invariant.counted,
      );
      led =
          ap (map led_values) c.in_ok-push.ensures.items
          ∙ map-append led_values done (r ∷ [])
          ∙ ap (λ (x : List (Values metadata_response_partition)). x ++ led_values r ∷ [])
          c.loop-index.invariant.led
          ∙ ap (λ (v : Values metadata_response_partition).
          map partition_values (range_with_len 0 i) ++ v ∷ []) c.led_partition.ensures
          ∙ sym (map-range_with_len_more partition_values 0 i i (omega arith));
    }
