use Rattle.std.proofs.Common.{◌≡◌, ◌+◌, ◌≤◌}
use Rattle.kx_notices.specs.Dates.{days_of_years}
use Rattle.kx_notices.proofs.moment.year_of.Given as goal

abbrev pub invariant-loop-left : goal.invariant-loop-left
invariant-loop-left l =
    (days_of_years l.years + l.left ≡ l.fn.days) × (l.years + l.left ≤ l.fn.days)

abbrev pub decreases-loop-left : goal.decreases-loop-left
decreases-loop-left l = l.left
