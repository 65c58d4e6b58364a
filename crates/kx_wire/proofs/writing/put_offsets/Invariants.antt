use Rattle.std.proofs.Common.{◌≡◌, ◌++◌, length, take}
use Rattle.std.specs.Int.{w16}
use Rattle.std.specs.List.{flat_map, AllByRecursion}
use Rattle.kx_varint.specs.BigEndian.{unsigned_text}
use Rattle.kx_message.specs.Fields.{offset_text}
use Rattle.kx_message.specs.Message.{IsOffset}
use Rattle.kx_wire.proofs.writing.put_offsets.Given as goal

abbrev pub invariant-loop-offset : goal.invariant-loop-offset
invariant-loop-offset l =
    record {
      written : l.out.items ≡ l.fn.out.items ++ unsigned_text w16 (length l.items)
          ++ flat_map offset_text (take l.offset-index l.items);
      each : AllByRecursion IsOffset (take l.offset-index l.items);
    }
