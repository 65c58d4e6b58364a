-- Varints (Kafka's message format, "Record"; Protocol Buffers, "Encoding", signed integers):
-- what a text spells, what reading gives, and the shortest spelling.
use Rattle.std.specs.Prelude.{◌≡◌, ◌<◌, ◌≤◌, ◌+◌, ◌-◌, ◌*◌, ◌/◌, ◌%◌, ℕ, zero, suc, ℤ, pos, negsuc}
use Rattle.std.specs.Prelude.{List, [], ◌∷◌, ◌++◌, length, take, IfOk, ◌↔◌, slice_index, Result, Ok}
use Rattle.std.specs.Prelude.{Err, nat_lt, ◌==◌, ◌&&◌, if◌then◌else◌}
use Rattle.kx_varint.specs.declared.fault.VarFault.{VarFault}
use Rattle.kx_varint.specs.declared.fault.VarFault.TheVariants.{Short, TooLong}

------ what a text spells

-- how many bytes a number may have, and how large the byte at the last of these places may be
pub record Shape : Type 0 where
  pub most : ℕ
  pub top : ℕ

-- 32 bits
abbrev pub varint : Shape
varint = record { most = 5; top = 15 }

-- 64 bits
abbrev pub varlong : Shape
varlong = record { most = 10; top = 1 }

-- all bytes but the last are at least 128, and the last is below 128
abbrev pub IsGroups : List ℕ → Type 0
IsGroups [] = ⊥
IsGroups (last ∷ []) = last < 128
IsGroups (byte ∷ next ∷ bytes) = (128 ≤ byte) × (byte < 256) × IsGroups (next ∷ bytes)

-- the sum of (byte i mod 128) * 128 ^ i
abbrev pub groups_sum : List ℕ → ℕ
groups_sum [] = 0
groups_sum (byte ∷ bytes) = byte % 128 + 128 * groups_sum bytes

-- 0, -1, 1, -2 are 0, 1, 2, 3 (`negsuc n` is -n - 1)
abbrev pub zigzag : ℤ → ℕ
zigzag (pos n) = 2 * n
zigzag (negsuc n) = 2 * n + 1

-- the whole text spells the number n
pub record Spells (shape : Shape) (n : ℤ) (text : List ℕ) : Type 0 where
  pub groups : IsGroups text
  pub count : length text ≤ shape.most
  pub top : slice_index text (shape.most - 1) ≤ shape.top
  pub sum : groups_sum text ≡ zigzag n

abbrev pub SpellsVarint : ℤ → List ℕ → Type 0
SpellsVarint = Spells varint

abbrev pub SpellsVarlong : ℤ → List ℕ → Type 0
SpellsVarlong = Spells varlong

-- the bytes are the start of a spelling that goes on
abbrev pub IsStart : Shape → List ℕ → Type 0
IsStart shape bytes =
    (n : ℤ) × (more : List ℕ) × (0 < length more) × Spells shape n (bytes ++ more)

------ reading from left to right

abbrev pub with_low : ℕ → Result (ℕ × ℕ) VarFault → Result (ℕ × ℕ) VarFault
with_low byte (Ok r) = Ok (byte % 128 + 128 * r.0, r.1 + 1)
with_low byte (Err fault) = Err fault

-- the number in groups at the front, and how many bytes they take
abbrev pub groups_at : ℕ → ℕ → List ℕ → Result (ℕ × ℕ) VarFault
groups_at most top [] = Err Short
groups_at most top (byte ∷ bytes) =
    if (most == 1) && nat_lt top byte then Err TooLong
    else (if nat_lt byte 128 then Ok (byte, 1) else with_low byte (groups_at (most - 1) top bytes))

abbrev pub unzigzag : ℕ → ℤ
unzigzag n = if n % 2 == 0 then pos (n / 2) else negsuc (n / 2)

abbrev pub signed : Result (ℕ × ℕ) VarFault → Result (ℤ × ℕ) VarFault
signed (Ok r) = Ok (unzigzag r.0, r.1)
signed (Err fault) = Err fault

-- the number at the front, and how many bytes it takes
abbrev pub value_at : Shape → List ℕ → Result (ℤ × ℕ) VarFault
value_at shape bytes = signed (groups_at shape.most shape.top bytes)

-- what reading a number at the front of the bytes answers
pub record Reads (shape : Shape) (bytes : List ℕ) (answer : Result (ℤ × ℕ) VarFault) : Type 0 where
  -- the first bytes, as many as were taken, spell the number
  pub found : IfOk answer (λ x. (x.1 ≤ length bytes) × Spells shape x.0 (take x.1 bytes))
  -- a number that the first k bytes spell is read
  pub only : (n : ℤ) (k : ℕ) → k ≤ length bytes → Spells shape n (take k bytes) → answer ≡ Ok (n, k)
  -- the bytes end within a number; else they are TooLong
  pub short : (answer ≡ Err Short) ↔ IsStart shape bytes
  -- the same as a function, for the crates above
  pub exact : answer ≡ value_at shape bytes

------ the shortest spelling

-- n in groups, lowest first; of a number below 128 ^ (fuel + 1)
unfoldable pub groups_of : ℕ → ℕ → List ℕ
groups_of zero n = n ∷ []
groups_of (suc fuel) n =
    if nat_lt n 128 then n ∷ [] else (n % 128 + 128) ∷ groups_of fuel (n / 128)

unfoldable pub shortest_text : ℤ → List ℕ
shortest_text n = groups_of 9 (zigzag n)

-- the text spells n, and no shorter text does
pub record IsShortest (shape : Shape) (n : ℤ) (text : List ℕ) : Type 0 where
  pub spells : Spells shape n text
  pub least : (other : List ℕ) → Spells shape n other → length text ≤ length other
