use Rattle.std.proofs.Common.{◌≡◌, take}
use Rattle.kx_commits.specs.Kept.{settled_all}
use Rattle.kx_commits.specs.Table.{Key, has_slot, slot_in}
use Rattle.kx_commits.proofs.slots.Slots.settle_all.Given as goal

-- those so far are settled, and each slot is kept that was
abbrev pub invariant-loop-said : goal.invariant-loop-said
invariant-loop-said l =
    ((key : Key) → slot_in l.self key
    ≡ settled_all l.outcome key.0 key.1 (take l.said-index l.all) (slot_in l.fn.self key))
    × ((key : Key) → has_slot l.self key ≡ has_slot l.fn.self key)
