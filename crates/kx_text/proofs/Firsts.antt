-- What the first line and the first piece of a text are.
use Rattle.std.proofs.Common.{◌≡◌, ℕ, List, [], ◌∷◌, Some, Bool, true, false, cond, eqb, refl}
use Rattle.std.proofs.Common.{sym, ap}
use Rattle.std.proofs.Common.{◌∙◌}
use Rattle.std.specs.Io.BufRead.{take_through, drop_through}
use Rattle.kx_text.specs.Words.{before, behind, lines_of, pieces_of, pieces_in, with_first}

-- the first piece, and those behind it
pub pieces_of-first : (xs : List ℕ)
    → pieces_of xs ≡ before 32 xs ∷ pieces_in (behind 32 xs)
pieces_of-first [] = refl
pieces_of-first (x ∷ xs) = at (eqb x 32) (pieces_of-first xs) where
  at : (b : Bool) → pieces_of xs ≡ before 32 xs ∷ pieces_in (behind 32 xs)
      → cond b ([] ∷ pieces_of xs) (with_first x (pieces_of xs))
      ≡ cond b [] (x ∷ before 32 xs) ∷ pieces_in (cond b (Some xs) (behind 32 xs))
  at true h = refl
  at false h = ap (with_first x) h

-- the first line of some bytes, and the lines behind it
pub lines_of-first : (x : ℕ) (xs : List ℕ) → lines_of (x ∷ xs)
    ≡ before 10 (take_through 10 (x ∷ xs)) ∷ lines_of (drop_through 10 (x ∷ xs))
lines_of-first x [] = at (eqb x 10) refl where
  at : (b : Bool) → eqb x 10 ≡ b → cond b ([] ∷ []) ((x ∷ []) ∷ [])
      ≡ before 10 (cond b (x ∷ []) (x ∷ [])) ∷ lines_of (cond b [] [])
  at true e = ap (λ (b : Bool). cond b [] (x ∷ []) ∷ []) (sym e)
  at false e = ap (λ (b : Bool). cond b [] (x ∷ []) ∷ []) (sym e)
lines_of-first x (y ∷ ys) = at (eqb x 10) refl (lines_of-first y ys) where
  at : (b : Bool) → eqb x 10 ≡ b → lines_of (y ∷ ys)
      ≡ before 10 (take_through 10 (y ∷ ys)) ∷ lines_of (drop_through 10 (y ∷ ys))
      → cond b ([] ∷ lines_of (y ∷ ys)) (with_first x (lines_of (y ∷ ys)))
      ≡ before 10 (cond b (x ∷ []) (x ∷ take_through 10 (y ∷ ys)))
      ∷ lines_of (cond b (y ∷ ys) (drop_through 10 (y ∷ ys)))
  at true e h = ap (λ (b : Bool). cond b [] (x ∷ []) ∷ lines_of (y ∷ ys)) (sym e)
  at false e h = ap (with_first x) h ∙ ap (λ (b : Bool).
      cond b [] (x ∷ before 10 (take_through 10 (y ∷ ys))) ∷ lines_of (drop_through 10 (y ∷ ys)))
      (sym e)
