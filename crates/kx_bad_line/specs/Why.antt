-- Why a line of a script is bad.
use Rattle.std.specs.Prelude.{◌≡◌, ℕ, Bool, true, false, List, [], ◌∷◌, Option, None, Some}
use Rattle.std.specs.Prelude.{IsTrue, drop}
use Rattle.kx_bad_line.specs.Forms.{fits, form_of}
use Rattle.kx_bad_line.specs.declared.forms.Form.{Form}
use Rattle.kx_bad_line.specs.declared.why.WhyBad.{WhyBad}
use Rattle.kx_bad_line.specs.declared.why.WhyBad.TheVariants as why
use Rattle.kx_text.specs.Words.{words_of}

-- the first word
abbrev pub first_of : List (List ℕ) → List ℕ
first_of [] = []
first_of (word ∷ words) = word

-- the reason is that the line has other pieces than words
abbrev pub are_no_words : WhyBad → Bool
are_no_words why.CarriageReturn = true
are_no_words (why.Byte byte) = true
are_no_words why.Spaces = true
are_no_words why.Long = true
are_no_words (why.Name word) = false
are_no_words (why.Count form) = false
are_no_words (why.Words form) = false

-- how many there are, 5 if there are more
abbrev pub count_of : List (List ℕ) → ℕ
count_of [] = 0
count_of (a ∷ []) = 1
count_of (a ∷ b ∷ []) = 2
count_of (a ∷ b ∷ c ∷ []) = 3
count_of (a ∷ b ∷ c ∷ d ∷ []) = 4
count_of (a ∷ b ∷ c ∷ d ∷ e ∷ words) = 5

-- the first of these words is that of the form, and the number of those behind it fits or not
pub record Begins (words : List (List ℕ)) (form : Form) (fitting : Bool) : Type 0 where
  pub named : form_of (first_of words) ≡ Some form
  pub counted : fits form (count_of (drop 1 words)) ≡ fitting

-- why a line of these words is bad
abbrev pub IsWhyOf : List (List ℕ) → WhyBad → Type 0
IsWhyOf words (why.Name word) = (word.now ≡ first_of words) × (form_of word.now ≡ None)
IsWhyOf words (why.Count form) = Begins words form false
IsWhyOf words (why.Words form) = Begins words form true
IsWhyOf words other = ⊥

-- why a line is bad, whose words these are
abbrev pub IsWhyIn : Option (List (List ℕ)) → WhyBad → Type 0
IsWhyIn None reason = IsTrue (are_no_words reason)
IsWhyIn (Some words) reason = IsWhyOf words reason

abbrev pub IsWhy : List ℕ → WhyBad → Type 0
IsWhy line reason = IsWhyIn (words_of line) reason
