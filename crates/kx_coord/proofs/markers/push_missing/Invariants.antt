use Rattle.std.proofs.Common.{◌≡◌, ◌++◌, map, take, filter}
use Rattle.std.specs.Prelude.{not}
use Rattle.std.specs.List.{list_any}
use Rattle.kx_model.specs.Markers.{same_answered}
use Rattle.kx_coord.specs.Noted.{answered}
use Rattle.kx_coord.proofs.HandedOut.{marker}
use Rattle.kx_coord.proofs.markers.push_missing.Given as goal

-- the markers so far
abbrev pub invariant-loop-partition : goal.invariant-loop-partition
invariant-loop-partition l = l.messages.items ≡ l.initial.messages.items
    ++ map (marker l.epoch l.row.txn l.held l.outcome) (filter (λ p. not (list_any
    (same_answered (answered l.row.txn (record { id = l.row.id; epoch = l.row.epoch }) p)) l.noted))
    (take l.partition-index l.partition-items))
