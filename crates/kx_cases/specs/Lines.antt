-- What a line of a file of cases says.
use Rattle.std.specs.Prelude.{◌≡◌, ◌≢◌, ◌⊎◌, ℕ, List, None, codes, length}
use Rattle.std.specs.Str.Pattern.{FindsCharPrefix, FindsText, FindsTextPrefix, HasPrefixMatch}
use Rattle.std.specs.Str.Pattern.{SplitsAroundMatch, StripsPrefix}
use Rattle.kx_cases.specs.declared.lines.Line.{Line}
use Rattle.kx_cases.specs.declared.lines.Line.TheVariants as line

-- it is empty, or a comment: `#` stands at its front
abbrev pub IsSilent : List ℕ → Type 0
IsSilent text = (length text ≡ 0) ⊎ HasPrefixMatch (FindsCharPrefix 35) text

abbrev pub IsNotSilent : List ℕ → Type 0
IsNotSilent text = (length text ≢ 0) × FindsCharPrefix 35 text None

-- the word stands at the front of the text, and the rest behind it
abbrev pub BeginsWith : List ℕ → List ℕ → List ℕ → Type 0
BeginsWith word text rest = StripsPrefix (FindsTextPrefix word) text rest

abbrev pub BeginsOtherwise : List ℕ → List ℕ → Type 0
BeginsOtherwise word text = FindsTextPrefix word text None

-- the front and the back stand around the first ` = ` of the text
abbrev pub CutsAtEquals : List ℕ → List ℕ → List ℕ → Type 0
CutsAtEquals text front back = SplitsAroundMatch (FindsText (codes " = ")) text front back

abbrev pub HasNoEquals : List ℕ → Type 0
HasNoEquals text = FindsText (codes " = ") text None

-- a line that isn't silent and begins no case
abbrev pub IsPlain : List ℕ → Type 0
IsPlain text = IsNotSilent text × BeginsOtherwise (codes "case ") text

-- the text says this
abbrev pub Says : List ℕ → Line → Type 0
Says text line.Nothing = IsSilent text
Says text (line.Case name) = IsNotSilent text × BeginsWith (codes "case ") text name.now
Says text (line.Bytes name bytes) =
    IsPlain text × ((front : List ℕ)
    × CutsAtEquals text front bytes.now × BeginsWith (codes "bytes ") front name.now)
Says text (line.Step step answer) =
    IsPlain text × CutsAtEquals text step.now answer.now × BeginsOtherwise (codes "bytes ") step.now
Says text line.Bad = IsPlain text × HasNoEquals text
