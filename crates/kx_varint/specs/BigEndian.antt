-- Numbers of fixed width, highest byte first (Kafka's protocol primitives INT8 to INT64).
use Rattle.std.specs.Prelude.{◌≡◌, ◌+◌, ◌*◌, ◌^◌, ℕ, ℤ, List, [], ◌∷◌, length, take, drop}
use Rattle.std.specs.Prelude.{Result, Ok, Err, nat_lt, if◌then◌else◌}
use Rattle.std.specs.Int.{Width, w8, w16, w32, w64, w128, byte_len, cast_signed, cast_unsigned}
use Rattle.std.specs.Int.{to_be_bytes}
use Rattle.std.specs.Int.RustNames.{FitsSigned}
use Rattle.kx_varint.specs.declared.fault.VarFault.{VarFault}
use Rattle.kx_varint.specs.declared.fault.VarFault.TheVariants.{Short}

-- each byte counts 256 times as much as the one behind it
abbrev pub place_value : List ℕ → ℕ
place_value [] = 0
place_value (byte ∷ bytes) = byte * 256 ^ length bytes + place_value bytes

-- a field of this width at the front, and the bytes behind it
abbrev pub unsigned_field : Width → List ℕ → Result (ℕ × List ℕ) VarFault
unsigned_field w bytes =
    if nat_lt (length bytes) (byte_len w) then Err Short
    else Ok (place_value (take (byte_len w) bytes), drop (byte_len w) bytes)

-- the same in two's complement
abbrev pub signed_field : Width → List ℕ → Result (ℤ × List ℕ) VarFault
signed_field w bytes =
    if nat_lt (length bytes) (byte_len w) then Err Short
    else Ok (cast_signed w (place_value (take (byte_len w) bytes)), drop (byte_len w) bytes)

-- the text is a signed number of this width
pub record Signed (w : Width) (z : ℤ) (text : List ℕ) : Type 0 where
  pub fits : FitsSigned w z
  pub is : text ≡ to_be_bytes w (cast_unsigned w z)

-- the numbers of this width that stand at a place of a text
abbrev pub unsigned_at : Width → ℕ → List ℕ → ℕ
unsigned_at w at text = place_value (take (byte_len w) (drop at text))

abbrev pub signed_at : Width → ℕ → List ℕ → ℤ
signed_at w at text = cast_signed w (unsigned_at w at text)

-- what is written; unfoldable, so that no goal shows single bytes
unfoldable pub unsigned_text : Width → ℕ → List ℕ
unsigned_text w n = to_be_bytes w n

unfoldable pub signed_text : Width → ℤ → List ℕ
signed_text w z = to_be_bytes w (cast_unsigned w z)

-- the widths of fields: 8, 16, 32 or 64 bits
abbrev pub IsFieldWidth : Width → Type 0
IsFieldWidth w8 = Unit {0}
IsFieldWidth w16 = Unit {0}
IsFieldWidth w32 = Unit {0}
IsFieldWidth w64 = Unit {0}
IsFieldWidth w128 = ⊥
