-- What a case that ends makes of the numbers.
use Rattle.std.proofs.Common.{◌≡◌, Bool, true, false, Option, None, Some, sym, subst, arith}
use Rattle.kx_cases.specs.declared.tally.Tally.{Tally}
use Rattle.kx_cases.specs.Tally.{IsWithin, ended}

ended_within : (case : Option Bool) (t : Tally) → IsWithin t → IsWithin (ended case t)
ended_within None t h = h
ended_within (Some true) t h = (omega (arith, h.0, h.1), omega arith)
ended_within (Some false) t h = (omega (arith, h.0, h.1), omega arith)

pub within : (case : Option Bool) (old new : Tally) → new ≡ ended case old → IsWithin old →
    IsWithin new
within case old new e h = subst (λ (t : Tally). IsWithin t) (sym e) (ended_within case old h)
