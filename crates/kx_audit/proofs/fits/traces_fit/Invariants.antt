use Rattle.std.proofs.Common.{◌≡◌, ◌<◌, ℕ, Some}
use Rattle.std.specs.Prelude.{slice_get}
use Rattle.kx_audit.specs.Making.{Trail}
use Rattle.kx_audit.specs.Replayed.{trails_of}
use Rattle.kx_audit.specs.Schedule.{Fits}
use Rattle.kx_audit.proofs.fits.traces_fit.Given as goal

abbrev pub invariant-loop-trace : goal.invariant-loop-trace
invariant-loop-trace g l = (k : ℕ) (t : Trail) → k < l.trace-index
    → slice_get (trails_of g.B.Tells.making l.traces) k ≡ Some t → Fits t
