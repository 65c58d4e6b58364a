-- Where things are in the diagram, in pixels.
use Rattle.std.specs.Prelude.{ℕ, ◌+◌, ◌-◌, ◌*◌, ◌^◌, ◌/◌, min}
use Rattle.kx_page.specs.declared.places.TheConstants.{LANE, MARGIN, ROW}

-- past what a usize holds, the last place
abbrev pub down : ℕ → ℕ → ℕ
down place more = min (place + more) (2 ^ 64 - 1)

abbrev pub placed : ℕ → ℕ → ℕ → ℕ
placed count each more = down (count * each) more

-- so far right of the left edge of a lane
abbrev pub x_of : ℕ → ℕ → ℕ
x_of lane more = placed lane LANE more

-- so far below the upper edge of a step's row
abbrev pub y_of : ℕ → ℕ → ℕ
y_of step more = placed step ROW more

abbrev pub width_of : ℕ → ℕ
width_of lanes = placed lanes LANE MARGIN

abbrev pub halfway : ℕ → ℕ → ℕ
halfway one other = one / 2 + other / 2
