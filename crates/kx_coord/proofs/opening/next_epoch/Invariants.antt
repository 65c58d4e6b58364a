use Rattle.std.proofs.Common.{◌≡◌, map, take}
use Rattle.kx_model.specs.Coordinator.{coordinator_epoch}
use Rattle.kx_txnlog.specs.Entry.{note_of}
use Rattle.kx_coord.proofs.opening.next_epoch.Given as goal

-- the epoch after the entries so far
abbrev pub invariant-loop-entry : goal.invariant-loop-entry
invariant-loop-entry l =
    l.last ≡ coordinator_epoch (map note_of (take l.entry-index l.entries))
