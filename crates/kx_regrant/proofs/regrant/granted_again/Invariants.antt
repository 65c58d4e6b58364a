use Rattle.std.proofs.Common.{◌≡◌, map, take}
use Rattle.kx_txnlog.specs.Entry.{note_of}
use Rattle.kx_regrant.specs.Internal.{seen_in}
use Rattle.kx_regrant.proofs.regrant.granted_again.Given as goal

-- what the entries so far say
abbrev pub invariant-loop-entry : goal.invariant-loop-entry
invariant-loop-entry l = l.seen ≡ seen_in l.txn (map note_of (take l.entry-index l.entries))
