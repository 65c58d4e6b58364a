use Rattle.std.proofs.Common.{◌≡◌, map, length}
use Rattle.std.specs.List.{range_with_len}
use Rattle.kx_gateway.specs.Metadata.{partition_values}
use Rattle.kx_gateway.proofs.Values.{led_values}
use Rattle.kx_gateway.proofs.metadata.led.Given as goal

abbrev pub invariant-loop-index : goal.invariant-loop-index
invariant-loop-index l = record {
  counted : length l.partitions.items ≡ l.index;
  led : map led_values l.partitions.items ≡ map partition_values (range_with_len 0 l.index);
}
