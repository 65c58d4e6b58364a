use Rattle.std.proofs.Common.{◌≡◌, length, map}
use Rattle.kx_txnlog.specs.Entry.{note_of}
use Rattle.kx_server_audit.proofs.entries.same_entries.Given as goal

abbrev pub decreases-loop-entry : goal.decreases-loop-entry
decreases-loop-entry l = length l.left

-- all entries are the same if those that are left are, and only then
abbrev pub invariant-loop-entry : goal.invariant-loop-entry
invariant-loop-entry l = record {
  same : map note_of l.left ≡ map note_of l.right → map note_of l.fn.a ≡ map note_of l.fn.b;
  only : map note_of l.fn.a ≡ map note_of l.fn.b → map note_of l.left ≡ map note_of l.right;
}
