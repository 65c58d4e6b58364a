-- What is written of some bytes, all of them or a front.
use Rattle.std.specs.Prelude.{◌≡◌, ◌⊎◌, ◌<◌, ℕ, List, ◌++◌, length, Option, Result, Ok, Err}
use Rattle.std.specs.Io.KnownBytes.{Appends}

-- some of the bytes are written, from their front, and not all of them
pub record IsBroken (text : List ℕ) (old new : Option (List ℕ)) : Type 0 where
  pub front : List ℕ
  pub lost : List ℕ
  pub parts : text ≡ front ++ lost
  pub some_lost : 0 < length lost
  pub written : Appends old new front

-- bytes that a writer is given: all of them are written, or a front if a write failed
abbrev pub Writes : {E : Type 0} → List ℕ → Option (List ℕ) → Option (List ℕ)
    → Result (Unit {0}) E → Type 0
Writes text old new (Ok done) = Appends old new text
Writes text old new (Err failed) = IsBroken text old new

-- what is said of an answer that a flush follows: of this answer; or, if the flush failed and that
-- is the answer, of the one before the flush
abbrev pub ThenFlushed : {E : Type 0} → (Result (Unit {0}) E → Type 0) → E
    → Result (Unit {0}) E → Type 0
ThenFlushed {E = E} Says unflushed answer =
    Says answer ⊎ ((answer ≡ Err unflushed) × (before : Result (Unit {0}) E) × Says before)
