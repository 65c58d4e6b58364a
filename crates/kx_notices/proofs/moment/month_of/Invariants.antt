use Rattle.std.proofs.Common.{◌≡◌, ◌+◌, take}
use Rattle.std.specs.Prelude.{sum}
use Rattle.kx_notices.proofs.moment.month_of.Given as goal

abbrev pub invariant-loop-length : goal.invariant-loop-length
invariant-loop-length l =
    (l.month ≡ l.length-index + 1) × (sum (take l.length-index l.lengths) + l.left ≡ l.fn.days)
