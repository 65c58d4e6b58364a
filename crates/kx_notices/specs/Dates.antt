-- Days since 1970 and their dates (ISO 8601, the calendar of Gregory).
use Rattle.std.specs.Prelude.{◌≡◌, ◌==◌, ◌&&◌, ◌||◌, ◌+◌, ◌%◌, ◌∷◌, ◌<◌, ◌≤◌, [], ℕ, Bool, List, suc, zero}
use Rattle.std.specs.Prelude.{if◌then◌else◌, length, not, slice_index, sum, take}
use Rattle.kx_notices.specs.declared.moment.Date.{Date}

abbrev pub is_leap : ℕ → Bool
is_leap year = (year % 4 == 0) && (not (year % 100 == 0) || (year % 400 == 0))

-- the lengths of the months of a year, in days
abbrev pub months : Bool → List ℕ
months leap =
    31 ∷ (if leap then 29 else 28) ∷ 31 ∷ 30 ∷ 31 ∷ 30 ∷ 31 ∷ 31 ∷ 30 ∷ 31 ∷ 30 ∷ 31 ∷ []

abbrev pub year_days : ℕ → ℕ
year_days year = if is_leap year then 366 else 365

-- the days of the first n years from 1970 on
abbrev pub days_of_years : ℕ → ℕ
days_of_years zero = 0
days_of_years (suc n) = days_of_years n + year_days (1970 + n)

-- the day that is `days` days after 1970-01-01 is in this year, after `left` days of it
pub record IsYearOf (days year left : ℕ) : Type 0 where
  pub years : ℕ
  pub is_year : year ≡ 1970 + years
  pub is_within : left < year_days year
  pub counted : days_of_years years + left ≡ days

-- the day that is `days` days after the first of a year whose months have these lengths
pub record IsMonthOf (days : ℕ) (lengths : List ℕ) (month day : ℕ) : Type 0 where
  pub before : ℕ
  pub is_month : month ≡ before + 1
  pub month_fits : before < length lengths
  pub first_day : 1 ≤ day
  pub last_day : day ≤ slice_index lengths before
  pub counted : sum (take before lengths) + day ≡ days + 1

-- the date that is `days` days after 1970-01-01
pub record IsDateOf (days : ℕ) (date : Date) : Type 0 where
  pub in_year : ℕ
  pub year : IsYearOf days date.year in_year
  pub month : IsMonthOf in_year (months (is_leap date.year)) date.month date.day
