-- Reading from the front of a list of bytes: a value and the bytes behind it, or None.
use Rattle.std.specs.Prelude.{ℕ, zero, suc, ℤ, List, [], ◌∷◌, length, take, drop, Option, Some}
use Rattle.std.specs.Prelude.{None}
use Rattle.std.specs.Prelude.{Result, Ok, Err, nat_lt, if◌then◌else◌}
use Rattle.std.specs.Int.{Width}
use Rattle.kx_varint.specs.declared.fault.VarFault.{VarFault}
use Rattle.kx_varint.specs.BigEndian.{unsigned_field, signed_field}

abbrev pub Reader : Type 0 → Type 0
Reader A = List ℕ → Option (A × List ℕ)

abbrev pub goes_on : {A B : Type 0} → (A → Reader B) → Option (A × List ℕ) → Option (B × List ℕ)
goes_on next None = None
goes_on next (Some x) = next x.0 x.1

-- the second reader goes on where the first ended
infixl 10 ◌>>=◌
abbrev pub ◌>>=◌ : {A B : Type 0} → Reader A → (A → Reader B) → Reader B
(first >>= next) bytes = goes_on next (first bytes)

-- reads nothing, and gives this value
abbrev pub gives : {A : Type 0} → A → Reader A
gives x bytes = Some (x, bytes)

-- reads nothing, and gives this value if there is one
abbrev pub only : {A : Type 0} → Option A → Reader A
only None bytes = None
only (Some x) bytes = Some (x, bytes)

abbrev pub found : {A : Type 0} → Result (A × List ℕ) VarFault → Option (A × List ℕ)
found (Ok x) = Some x
found (Err fault) = None

-- the number of a width at the front
unfoldable pub unsigned : Width → Reader ℕ
unsigned w bytes = found (unsigned_field w bytes)

unfoldable pub signed : Width → Reader ℤ
signed w bytes = found (signed_field w bytes)

-- so many bytes
unfoldable pub taken : ℕ → Reader (List ℕ)
taken n bytes = if nat_lt (length bytes) n then None else Some (take n bytes, drop n bytes)

-- so many of one kind, one behind the other
unfoldable pub repeated : {A : Type 0} → Reader A → ℕ → Reader (List A)
repeated read zero = gives []
repeated read (suc n) = do
  x ← read
  xs ← repeated read n
  gives (x ∷ xs)

-- what the whole text stands for
abbrev pub whole : {A : Type 0} → Option (A × List ℕ) → Option A
whole None = None
whole (Some (x, [])) = Some x
whole (Some (x, byte ∷ bytes)) = None
