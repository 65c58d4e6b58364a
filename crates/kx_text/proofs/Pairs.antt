-- Records with their offsets, and the lines that are printed of them.
use Rattle.std.proofs.Common.{◌≡◌, ℕ, ℤ, List, [], ◌∷◌, ◌++◌, refl, ap}
use Rattle.std.specs.Prelude.{flat_map}
use Rattle.kx_batch.specs.Record.{Record}
use Rattle.kx_model.specs.Reading.{Shown}
use Rattle.kx_reader.specs.Pairs.{pair_of, pairs}
use Rattle.kx_text.specs.Pages.{shown_lines, value_line}

abbrev pub pair_line : ℤ × Record → List ℕ
pair_line p = value_line p.0 p.1.value

abbrev pub pair_lines : List (ℤ × Record) → List ℕ
pair_lines ps = flat_map pair_line ps

pub same_lines : (records : List Shown) → pair_lines (pairs records) ≡ shown_lines records
same_lines [] = refl
same_lines (s ∷ records) =
    ap (λ (lines : List ℕ). pair_line (pair_of s) ++ lines) (same_lines records)
