-- Which frames are lost: by Knuth's linear congruential generator (The Art of Computer Programming,
-- volume 2, section 3.3.4).
use Rattle.std.specs.Prelude.{ℕ, ◌+◌, ◌*◌, ◌%◌, ◌/◌, ◌^◌, ◌<◌}

-- what is drawn behind a draw
abbrev pub next_draw : ℕ → ℕ
next_draw drawn = (drawn * 6364136223846793005 + 1442695040888963407) % 2 ^ 64

-- the draw loses its frame, if so many of a hundred are lost
abbrev pub IsLost : ℕ → ℕ → Type 0
IsLost losses drawn = drawn / 2 ^ 33 % 100 < losses
