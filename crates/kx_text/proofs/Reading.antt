-- What a read up to a newline says of the lines.
use Rattle.std.proofs.Common.{◌≡◌, ℕ, List, [], ◌∷◌, Option, None, Some, Bool, true, false, not}
use Rattle.std.proofs.Common.{eqb, length, refl, sym, ap, ◌∙◌}
use Rattle.std.specs.Prelude.{IfSome, Ok}
use Rattle.std.specs.Io.KnownBytes.{IsAtEnd}
use Rattle.std.specs.Io.BufRead.{take_through, drop_through, DropsThrough}
use Rattle.std.proofs.lemmas.Bool.{eqb-true, eq-eqb}
use Rattle.kx_text.specs.Words.{before, lines_of}
use Rattle.kx_text.specs.Lines.{ReadsLine}
use Rattle.kx_text.proofs.Firsts.{lines_of-first}

pub reads_line : (old new : Option (List ℕ)) (line : List ℕ) (count : ℕ) (more : Bool)
    → more ≡ not (eqb count 0) → length line ≡ count → (count ≡ 0 → IsAtEnd old)
    → IfSome old (λ bytes. line ≡ take_through 10 bytes) → DropsThrough old new 10
    → IfSome old (λ bytes. ReadsLine bytes new line (Ok more))
reads_line None new line count more e n end taken dropped = tt
reads_line (Some []) new line count false e n end taken dropped = refl
reads_line (Some []) new line count true e n end taken dropped =
    let z : eqb count 0 ≡ true = eq-eqb count 0 (sym n ∙ ap length taken) in
    let bad : true ≡ not true = e ∙ ap not z in absurd (cc)
reads_line (Some (x ∷ xs)) new line count true e n end taken dropped = (
  drop_through 10 (x ∷ xs),
  dropped,
  lines_of-first x xs
      ∙ ap (λ (t : List ℕ). before 10 t ∷ lines_of (drop_through 10 (x ∷ xs))) (sym taken),
)
reads_line (Some (x ∷ xs)) new line count false e n end taken dropped = at (eqb count 0) refl where
  at : (b : Bool) → eqb count 0 ≡ b → lines_of (x ∷ xs) ≡ []
  at true z = let bad : x ∷ xs ≡ [] = end (eqb-true count 0 z) in absurd (cc)
  at false z = let bad : false ≡ not false = e ∙ ap not z in absurd (cc)
