use Rattle.std.proofs.Common.{map, take}
use Rattle.kx_txnlog.specs.Entry.{note_of}
use Rattle.kx_coord.specs.Internal.Follows.{Follows}
use Rattle.kx_coord.proofs.table.Table.of_entries.Given as goal

-- the entries so far
abbrev pub invariant-loop-entry : goal.invariant-loop-entry
invariant-loop-entry l = Follows (map note_of (take l.entry-index l.entries)) l.table.rows.entries
    l.table.next_id l.table.epoch
