-- What is said of a log to which the benchmark appends.
use Rattle.std.specs.Prelude.{◌≡◌, ℕ, ℤ, pos, negsuc, List, length}
use Rattle.kx_model.specs.Log.{Stored, end, entries}
use Rattle.kx_laws.specs.Grown.{IsGrown}

-- -1 if a batch isn't appended; else the end of a log of so many batches, each of which was
-- the one to come next
pub data IsEndOf (count : ℕ) : ℤ → Type 0 where
  Breaks : IsEndOf count (negsuc 0)
  Ends : (log : List Stored) → IsGrown log → length log ≡ count
      → IsEndOf count (pos (end (entries log)))
