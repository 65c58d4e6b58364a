-- What is written piece by piece, in front of something else.
use Rattle.std.proofs.Common.{◌≡◌, ◌++◌, ℕ, ℤ, List, ap, ◌∙◌, append_assoc}
use Rattle.std.specs.Int.{w64}
use Rattle.std.proofs.lemmas.Int.{to_z-of_z}
use Rattle.kx_varint.specs.BigEndian.{signed_text}
use mir.Val.{SFits, of_z, to_z}

-- one piece more
pub more : (before first second : List ℕ) {mid after : List ℕ} → mid ≡ before ++ first
    → after ≡ mid ++ second → after ≡ before ++ (first ++ second)
more before first second start next =
    next ∙ ap (λ (text : List ℕ). text ++ second) start ∙ append_assoc before first second

-- what was written last may as well stand with what comes behind it
pub behind : (before first last rest : List ℕ) {mid after : List ℕ} → mid ≡ before ++ first
    → after ≡ mid ++ last → after ++ rest ≡ before ++ (first ++ (last ++ rest))
behind before first last rest start next =
    ap (λ (text : List ℕ). text ++ rest) (more before first last start next)
    ∙ append_assoc before (first ++ last) rest
    ∙ ap (λ (text : List ℕ). before ++ text) (append_assoc first last rest)

-- a number whose bits were written is written
pub signed_piece : (before : List ℕ) (z : ℤ) {after : List ℕ} → SFits w64 z
    → after ≡ before ++ signed_text w64 (to_z w64 (of_z w64 z))
    → after ≡ before ++ signed_text w64 z
signed_piece before z fits written =
    written ∙ ap (λ (number : ℤ). before ++ signed_text w64 number) (to_z-of_z w64 z fits)
