use Rattle.std.proofs.Common.{◌≡◌, map, take}
use Rattle.std.specs.List.{flat_map}
use Rattle.kx_model.specs.Markers.{missing_of}
use Rattle.kx_txnlog.specs.Entry.{row_of}
use Rattle.kx_coord.proofs.markers.all_missing.Given as goal

-- the missing markers of the rows so far
abbrev pub invariant-loop-row : goal.invariant-loop-row
invariant-loop-row l =
    l.messages.items ≡ flat_map (missing_of l.epoch l.noted) (map row_of (take l.row-index l.rows))
