-- What a reader of committed records may get of a range of a partition (KIP-98, "READ_COMMITTED").
use Rattle.std.specs.Prelude.{ℕ, ℤ, Bool, ◌&&◌, List, filter, int_le, int_lt}
use Rattle.kx_model.specs.Coordinator.{commits}
use Rattle.kx_model.specs.Reading.{Shown, visible}
use Rattle.kx_model.specs.World.{World, entries_at, notes}

-- from an offset on, below another
abbrev pub between : ℤ → ℤ → Shown → Bool
between from next s = int_le from s.offset && int_lt s.offset next

-- the visible records of the range
abbrev pub visible_in : World → ℕ → ℤ → ℤ → List Shown
visible_in w partition from next =
    filter (between from next) (visible (entries_at w partition) (commits (notes w)))
