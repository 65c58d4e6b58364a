-- How many lines are written in a second.
use Rattle.std.specs.Prelude.{◌≡◌, ◌==◌, ◌+◌, ◌-◌, ◌/◌, ◌^◌, ◌≤◌, ◌∷◌, [], ℕ, Bool, List, length}
use Rattle.std.specs.Prelude.{if◌then◌else◌, min, nat_lt}
use Rattle.kx_notices.specs.declared.rate.Rate.{Rate}

abbrev pub most_lines : ℕ
most_lines = 100

abbrev pub most_counted : ℕ
most_counted = 2 ^ 64 - 1

abbrev pub second_of : ℕ → ℕ
second_of now = now / 1000

-- how many lines are told to be left out when a time has come
abbrev pub told : Rate → ℕ → ℕ
told rate now = if second_of now == rate.second then 0 else rate.left_out

-- one line if some were left out
abbrev pub line_for : ℕ → ℕ
line_for left_out = if left_out == 0 then 0 else 1

-- when a time has come: in a new second the first line is of those that were left out
abbrev pub turned : Rate → ℕ → Rate
turned rate now =
    if second_of now == rate.second then rate
    else record rate {
      second = second_of now;
      passed = line_for rate.left_out;
      left_out = 0;
    }

abbrev pub passes : Rate → Bool
passes rate = nat_lt rate.passed most_lines

-- a notice in the second of its time passes, or is counted
abbrev pub admitted : Rate → Rate
admitted rate =
    if passes rate then record rate { passed = rate.passed + 1 }
    else record rate { left_out = min (rate.left_out + 1) most_counted }

-- a notice at this time
abbrev pub noticed : Rate → ℕ → Rate
noticed rate now = admitted (turned rate now)

abbrev pub one_if : Bool → ℕ
one_if b = if b then 1 else 0

-- how many of the notices at these times pass
abbrev pub passed_of : Rate → List ℕ → ℕ
passed_of rate [] = 0
passed_of rate (now ∷ times) = one_if (passes (turned rate now)) + passed_of (noticed rate now) times

-- how many lines are told to be left out meanwhile
abbrev pub told_of : Rate → List ℕ → ℕ
told_of rate [] = 0
told_of rate (now ∷ times) = told rate now + told_of (noticed rate now) times

-- how many lines are written meanwhile
abbrev pub lines_of : Rate → List ℕ → ℕ
lines_of rate [] = 0
lines_of rate (now ∷ times) =
    line_for (told rate now) + (one_if (passes (turned rate now)) + lines_of (noticed rate now) times)

-- after notices at these times
abbrev pub rate_after : Rate → List ℕ → Rate
rate_after rate [] = rate
rate_after rate (now ∷ times) = rate_after (noticed rate now) times

-- all of these times are in one second
abbrev pub AreIn : ℕ → List ℕ → Type 0
AreIn second [] = Unit {0}
AreIn second (now ∷ times) = (second_of now ≡ second) × AreIn second times

-- at most 100 lines are written in any one second
abbrev pub FewPass : Type 0
FewPass = (rate : Rate) (second : ℕ) (times : List ℕ) → rate.passed ≤ most_lines
    → AreIn second times → lines_of rate times ≤ most_lines

-- each notice passes, is told to be left out, or is still to be told
abbrev pub EachIsCounted : Type 0
EachIsCounted = (rate : Rate) (times : List ℕ) → rate.left_out + length times ≤ most_counted
    → passed_of rate times + told_of rate times + (rate_after rate times).left_out
    ≡ length times + rate.left_out
