use Rattle.std.proofs.Common.{◌≡◌, ◌++◌, length, take}
use Rattle.std.specs.Int.{w32}
use Rattle.std.specs.List.{flat_map, AllByRecursion}
use Rattle.kx_varint.specs.BigEndian.{unsigned_text}
use Rattle.kx_message.specs.Fields.{aborted_txn_text}
use Rattle.kx_message.specs.Message.{IsAborted}
use Rattle.kx_wire.proofs.writing.put_aborted.Given as goal

abbrev pub invariant-loop-txn : goal.invariant-loop-txn
invariant-loop-txn l =
    record {
      written : l.out.items ≡ l.fn.out.items ++ unsigned_text w32 (length l.items)
          ++ flat_map aborted_txn_text (take l.txn-index l.items);
      each : AllByRecursion IsAborted (take l.txn-index l.items);
    }
