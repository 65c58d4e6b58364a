-- Years and months, one after the other.
use Rattle.std.proofs.Common.{◌≡◌, ◌+◌, ◌≤◌, ◌∷◌, [], ℕ, List, Bool, true, false}
use Rattle.std.proofs.Common.{refl, ap, arith, cond, length, suc}
use Rattle.std.specs.Prelude.{nat_le, sum, ◌&&◌}
use Rattle.kx_notices.specs.Dates.{days_of_years, is_leap, months, year_days}

pub one_more_year : (n : ℕ) → days_of_years (n + 1) ≡ days_of_years n + year_days (1970 + n)
one_more_year n =
    let e : n + 1 ≡ suc n = omega arith in
    ap days_of_years e

pub some_days : (year : ℕ) → (365 ≤ year_days year) × (year_days year ≤ 366)
some_days year = cases (is_leap year) where
  cases : (b : Bool) → (365 ≤ cond b 366 365) × (cond b 366 365 ≤ 366)
  cases true = (omega arith, omega arith)
  cases false = (omega arith, omega arith)

pub sum_of_months : (b : Bool) → sum (months b) ≡ cond b 366 365
sum_of_months true = refl
sum_of_months false = refl

pub twelve : (b : Bool) → length (months b) ≡ 12
twelve true = refl
twelve false = refl

all_up_to : ℕ → List ℕ → Bool
all_up_to m [] = true
all_up_to m (x ∷ xs) = nat_le x m && all_up_to m xs
