-- What a server's coordinator is told of the time.
use Rattle.std.specs.Prelude.{ℕ, ◌+◌, ◌-◌, ◌^◌, max, min}

-- after a time that it was told, in milliseconds since 1970: so many have passed since by a clock
-- that never goes back, and the clock on the wall shows a time
abbrev pub told_next : ℕ → ℕ → ℕ → ℕ
told_next told passed wall = max (min (told + passed) (2 ^ 64 - 1)) wall
