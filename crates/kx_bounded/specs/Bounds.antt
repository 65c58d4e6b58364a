-- Numbers within bounds.
use Rattle.std.specs.Prelude.{ℕ, ◌≤◌}

abbrev pub IsWithin : ℕ → ℕ → ℕ → Type 0
IsWithin least most n = (least ≤ n) × (n ≤ most)
