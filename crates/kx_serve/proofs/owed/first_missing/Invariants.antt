use Rattle.std.proofs.Common.{◌≡◌, ◌<◌, ℕ, false}
use Rattle.kx_serve.specs.Owed.{is_missing}
use Rattle.kx_serve.proofs.owed.first_missing.Given as goal

-- none of those that were looked at is missing
abbrev pub invariant-loop-number : goal.invariant-loop-number
invariant-loop-number l = (k : ℕ) → k < l.number → is_missing l.rows l.kept k ≡ false
