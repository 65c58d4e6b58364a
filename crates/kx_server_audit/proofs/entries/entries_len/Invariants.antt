use Rattle.std.proofs.Common.{◌≡◌, ◌+◌, length, map}
use Rattle.std.specs.List.{flat_map}
use Rattle.kx_txnlog.specs.Entry.{note_of}
use Rattle.kx_txnlog.specs.Layout.{entry_text}
use Rattle.kx_server_audit.proofs.entries.entries_len.Given as goal

abbrev pub decreases-loop-entry : goal.decreases-loop-entry
decreases-loop-entry l = length l.left

-- the bytes so far and those of the entries that are left are all
abbrev pub invariant-loop-entry : goal.invariant-loop-entry
invariant-loop-entry l =
    l.len + length (flat_map entry_text (map note_of l.left))
    ≡ length (flat_map entry_text (map note_of l.fn.entries))
