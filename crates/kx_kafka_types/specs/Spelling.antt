-- What a text of values is, field by field (Kafka protocol guide, "Protocol Primitive Types";
-- KIP-482 for flexible versions).
use Rattle.std.specs.Prelude.{◌≡◌, ◌≤◌, ℕ, List, [], ◌∷◌, length, Bool, true, false}
use Rattle.std.specs.Prelude.{Option, Some, None, nat_lt, ◌==◌}
use Rattle.std.specs.Int.{Width, w8, w16, w32, w64}
use Rattle.kx_varint.specs.BigEndian.{Signed}
use Rattle.kx_varint.specs.Text.{◌⊳◌, Exactly}
use Rattle.kx_varint.specs.Varint.{varint, unzigzag}
use Rattle.kx_varint.specs.Varint as groups
use Rattle.kx_kafka_types.specs.declared.version.Version.{Version}
use Rattle.kx_kafka_types.specs.Schema.{Primitive, Boolean, Int8, Int16, Int32, Int64, Text}
use Rattle.kx_kafka_types.specs.Schema.{NullableText, Bytes, NullableBytes, ValueOf, Versions}
use Rattle.kx_kafka_types.specs.Schema.{Always, Since, Only, Fields, End, One, Field, Array}
use Rattle.kx_kafka_types.specs.Schema.{NullableArray, Values}
use Rattle.kx_kafka_types.specs.Writing.{flag_byte, plain_length, compact_count}

-- one or the other
abbrev pub Either : Bool → (List ℕ → Type 0) → (List ℕ → Type 0) → List ℕ → Type 0
Either true P Q text = P text
Either false P Q text = Q text

-- one after the other
abbrev pub Each : {A : Type 0} → (A → List ℕ → Type 0) → List A → List ℕ → Type 0
Each P [] = Exactly []
Each P (x ∷ xs) = P x ⊳ Each P xs

------ primitive types

-- UNSIGNED_VARINT: a varint is the zig-zag of its number, and this one the number itself
abbrev pub SpellsUnsigned : ℕ → List ℕ → Type 0
SpellsUnsigned n = groups.Spells varint (unzigzag n)

-- a length of fixed width, -1 for null; in a flexible version one more than it, 0 for null
abbrev pub SpellsLength : Version → Width → Option ℕ → List ℕ → Type 0
SpellsLength version w n =
    Either version.flexible (SpellsUnsigned (compact_count n)) (Signed w (plain_length n))

-- a length, and that many bytes
abbrev pub SpellsCounted : Version → Width → List ℕ → List ℕ → Type 0
SpellsCounted version w bytes = SpellsLength version w (Some (length bytes)) ⊳ Exactly bytes

abbrev pub SpellsNullable : Version → Width → Option (List ℕ) → List ℕ → Type 0
SpellsNullable version w None = SpellsLength version w None
SpellsNullable version w (Some bytes) = SpellsCounted version w bytes

-- false is 0 and true is 1; no other byte is either
abbrev pub SpellsBoolean : Bool → List ℕ → Type 0
SpellsBoolean flag = Exactly (flag_byte flag ∷ [])

abbrev pub SpellsPrimitive : Version → (p : Primitive) → ValueOf p → List ℕ → Type 0
SpellsPrimitive version Boolean = SpellsBoolean
SpellsPrimitive version Int8 = Signed w8
SpellsPrimitive version Int16 = Signed w16
SpellsPrimitive version Int32 = Signed w32
SpellsPrimitive version Int64 = Signed w64
SpellsPrimitive version Text = SpellsCounted version w16
SpellsPrimitive version NullableText = SpellsNullable version w16
SpellsPrimitive version Bytes = SpellsCounted version w32
SpellsPrimitive version NullableBytes = SpellsNullable version w32

------ structs

-- a tagged field: its number, its size, and its bytes
pub record Tagged : Type 0 where
  pub tag : ℕ
  pub bytes : List ℕ

abbrev pub SpellsTagged : Tagged → List ℕ → Type 0
SpellsTagged t = SpellsUnsigned t.tag ⊳ SpellsUnsigned (length t.bytes) ⊳ Exactly t.bytes

-- how many tagged fields there are, and the fields; whoever doesn't know them skips them
abbrev pub SpellsTags : List ℕ → Type 0
SpellsTags text = (tags : List Tagged)
    × (SpellsUnsigned (length tags) ⊳ Each SpellsTagged tags) text

-- the end of a struct
abbrev pub SpellsEnd : Version → List ℕ → Type 0
SpellsEnd version = Either version.flexible SpellsTags (Exactly [])

-- nothing, for this value
abbrev pub Absent : {A : Type 0} → A → A → List ℕ → Type 0
Absent other x text = (x ≡ other) × (text ≡ [])

-- what these versions have; in any other it is this value
abbrev pub SpellsIn : {A : Type 0} → Versions → Version → (A → List ℕ → Type 0) → A → A → List ℕ
    → Type 0
SpellsIn Always version P other x = P x
SpellsIn (Since first) version P other x =
    Either (nat_lt version.number first) (Absent other x) (P x)
SpellsIn (Only one) version P other x = Either (version.number == one) (P x) (Absent other x)

-- how many elements there are, and the elements
abbrev pub SpellsArray : {A : Type 0} → Version → (A → List ℕ → Type 0) → List A → List ℕ → Type 0
SpellsArray version P xs = SpellsLength version w32 (Some (length xs)) ⊳ Each P xs

-- null from this version on
abbrev pub SpellsNullableArray : {A : Type 0} → Version → ℕ → (A → List ℕ → Type 0)
    → Option (List A) → List ℕ → Type 0
SpellsNullableArray version since P None text =
    (since ≤ version.number) × SpellsLength version w32 None text
SpellsNullableArray version since P (Some xs) text = SpellsArray version P xs text

-- the fields of a struct, one behind the other
abbrev pub Spells : Version → (fields : Fields) → Values fields → List ℕ → Type 0
Spells version End v = SpellsEnd version
Spells version (One p) v = SpellsPrimitive version p v
Spells version (Field versions p other rest) v =
    SpellsIn versions version (SpellsPrimitive version p) other v.0 ⊳ Spells version rest v.1
Spells version (Array versions element rest) v =
    SpellsIn versions version (SpellsArray version (Spells version element)) [] v.0
    ⊳ Spells version rest v.1
Spells version (NullableArray since element rest) v =
    SpellsNullableArray version since (Spells version element) v.0 ⊳ Spells version rest v.1
