-- The texts of a page's pieces, and what of a text is markup.
use Rattle.std.specs.Prelude.{ℕ, ◌==◌, ◌/◌, ◌%◌, ◌||◌, Bool, List, [], ◌∷◌, ◌++◌, flat_map, codes}
use Rattle.std.specs.Prelude.{◌+◌, ◌-◌, decimal, if◌then◌else◌, nat_lt}
use Rattle.std.specs.Fmt.{signed_decimal}
use Rattle.std.specs.List.{after_first, before_first, filter}
use Rattle.kx_page.specs.declared.piece.Piece.{Piece}
use Rattle.kx_page.specs.declared.piece.Piece.TheVariants.{Count, Markup, Number, Value}

-- the digit of a number below 16
abbrev pub digit_of : ℕ → ℕ
digit_of n = if nat_lt n 10 then 48 + n else 97 + (n - 10)

abbrev pub hex_byte : ℕ → List ℕ
hex_byte byte = codes "\\x" ++ digit_of (byte / 16) ∷ digit_of (byte % 16) ∷ []

-- a byte of a value (HTML, "Serializing HTML fragments", escaping a string)
abbrev pub escaped_byte : ℕ → List ℕ
escaped_byte byte =
    if byte == 60 then codes "&lt;"
    else if byte == 62 then codes "&gt;"
    else if byte == 38 then codes "&amp;"
    else if byte == 34 then codes "&quot;"
    else if byte == 39 then codes "&#39;"
    else if nat_lt byte 32 || nat_lt 126 byte then hex_byte byte
    else byte ∷ []

abbrev pub escaped : List ℕ → List ℕ
escaped value = flat_map escaped_byte value

abbrev pub piece_text : Piece → List ℕ
piece_text (Markup text) = text.now
piece_text (Number n) = signed_decimal n
piece_text (Count n) = decimal n
piece_text (Value value) = escaped value.now

abbrev pub is_hole : ℕ → Bool
is_hole c = c == 64

-- a template with these texts in the place of its holes
unfoldable pub filled : List ℕ → List (List ℕ) → List ℕ
filled template [] = template
filled template (text ∷ texts) =
    before_first is_hole template ++ text ++ filled (after_first is_hole template) texts

-- a template without holes
abbrev pub fixed : List ℕ → List ℕ
fixed text = filled text []

-- the characters that begin and end tags, attributes and their values
abbrev pub is_markup : ℕ → Bool
is_markup c = (c == 60) || (c == 62) || (c == 34) || (c == 39)

abbrev pub markup_of : List ℕ → List ℕ
markup_of text = filter is_markup text
