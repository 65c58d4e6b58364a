use Rattle.std.proofs.Common.{◌≡◌, ◌++◌, Some, length, map, take}
use Rattle.std.specs.List.{flat_map, AllByRecursion}
use Rattle.std.specs.Int.{w32}
use Rattle.kx_kafka_types.specs.Writing.{length_text, fields_text, Fits}
use Rattle.kx_kafka_types.proofs.writer.put_array.Given as goal

abbrev pub invariant-loop-item : goal.invariant-loop-item
invariant-loop-item g l =
    record {
      written : l.out.items ≡ l.fn.out.items ++ length_text l.version w32 (Some (length l.items))
          ++ flat_map (fields_text l.version g.T.Writes.fields)
          (map g.T.Writes.values (take l.item-index l.items));
      each : AllByRecursion (Fits l.version g.T.Writes.fields)
          (map g.T.Writes.values (take l.item-index l.items));
    }
