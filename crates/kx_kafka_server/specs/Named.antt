-- The producer ids that logs named as the server began.
use Rattle.std.specs.Prelude.{◌+◌, ℕ, Bool, nat_le}

-- the ids after one that was allocated are at least this
abbrev pub is_past : ℕ → ℕ → Bool
is_past above id = nat_le above (id + 1)
