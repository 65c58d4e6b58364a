-- The lines of a script, the words of a line, and the numbers that words write.
use Rattle.std.specs.Prelude.{ℕ, Bool, ◌&&◌, List, [], ◌∷◌, Option, None, Some, length, nat_le}
use Rattle.std.specs.Prelude.{nat_lt, ◌==◌, if◌then◌else◌}
use Rattle.std.specs.List.{list_all}
use Rattle.std.specs.Str.{all_ascii_digits}
use Rattle.std.specs.Str.Parse.{digits_value}

-- the byte goes onto the first of these
abbrev pub with_first : ℕ → List (List ℕ) → List (List ℕ)
with_first byte [] = (byte ∷ []) ∷ []
with_first byte (text ∷ texts) = (byte ∷ text) ∷ texts

-- the lines of a script, each ended by a newline, which the last may lack
abbrev pub lines_of : List ℕ → List (List ℕ)
lines_of [] = []
lines_of (byte ∷ bytes) =
    if byte == 10 then [] ∷ lines_of bytes else with_first byte (lines_of bytes)

-- what stands between single spaces
abbrev pub pieces_of : List ℕ → List (List ℕ)
pieces_of [] = [] ∷ []
pieces_of (byte ∷ bytes) =
    if byte == 32 then [] ∷ pieces_of bytes else with_first byte (pieces_of bytes)

abbrev pub is_visible : ℕ → Bool
is_visible byte = nat_le 33 byte && nat_le byte 126

-- 1 to 64 visible bytes
abbrev pub is_word : List ℕ → Bool
is_word text = nat_lt 0 (length text) && nat_le (length text) 64 && list_all is_visible text

-- the words of a line, if each piece is one
unfoldable pub words_of : List ℕ → Option (List (List ℕ))
words_of line = if list_all is_word (pieces_of line) then Some (pieces_of line) else None

-- the number that decimal digits write
abbrev pub number_of : List ℕ → Option ℕ
number_of text =
    if nat_lt 0 (length text) && all_ascii_digits text then Some (digits_value 10 text) else None

-- the number, if it is below the limit
abbrev pub below : ℕ → Option ℕ → Option ℕ
below limit None = None
below limit (Some n) = if nat_lt n limit then Some n else None

unfoldable pub number_below : ℕ → List ℕ → Option ℕ
number_below limit text = below limit (number_of text)

------ what the reader keeps

-- in front of the first such byte, or all of them
abbrev pub before : ℕ → List ℕ → List ℕ
before byte [] = []
before byte (b ∷ bytes) = if b == byte then [] else b ∷ before byte bytes

-- behind the first such byte, where there is one
abbrev pub behind : ℕ → List ℕ → Option (List ℕ)
behind byte [] = None
behind byte (b ∷ bytes) = if b == byte then Some bytes else behind byte bytes

-- the pieces of what is left, if anything is
abbrev pub pieces_in : Option (List ℕ) → List (List ℕ)
pieces_in None = []
pieces_in (Some text) = pieces_of text
