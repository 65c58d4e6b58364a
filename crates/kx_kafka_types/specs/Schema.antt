-- The fields of a struct, version by version, and what values they have (Kafka protocol guide,
-- "Protocol Primitive Types" and "Messages"; KIP-482 for flexible versions).
use Rattle.std.specs.Prelude.{ℕ, ℤ, pos, List, [], Bool, false, Option, None}

-- BOOLEAN, INT8 to INT64, STRING, NULLABLE_STRING, BYTES and NULLABLE_BYTES (RECORDS too); in a
-- flexible version the last four are COMPACT_STRING and its kin
pub data Primitive : Type 0 where
  Boolean : Primitive
  Int8 : Primitive
  Int16 : Primitive
  Int32 : Primitive
  Int64 : Primitive
  Text : Primitive
  NullableText : Primitive
  Bytes : Primitive
  NullableBytes : Primitive

-- a string is its bytes
abbrev pub ValueOf : Primitive → Type 0
ValueOf Boolean = Bool
ValueOf Int8 = ℤ
ValueOf Int16 = ℤ
ValueOf Int32 = ℤ
ValueOf Int64 = ℤ
ValueOf Text = List ℕ
ValueOf NullableText = Option (List ℕ)
ValueOf Bytes = List ℕ
ValueOf NullableBytes = Option (List ℕ)

-- the versions that have a field
pub data Versions : Type 0 where
  Always : Versions
  Since : ℕ → Versions
  Only : ℕ → Versions

-- the fields of a struct, in order; or one value alone, as arrays have it
pub data Fields : Type 0 where
  End : Fields
  One : Primitive → Fields
  -- in these versions; in any other it has this value
  Field : Versions → (p : Primitive) → ValueOf p → Fields → Fields
  -- an array of structs, or of lone values, in these versions; in any other it is empty
  Array : Versions → Fields → Fields → Fields
  -- an array that may be null from this version on
  NullableArray : ℕ → Fields → Fields → Fields

-- the values of fields
abbrev pub Values : Fields → Type 0
Values End = Unit {0}
Values (One p) = ValueOf p
Values (Field versions p other rest) = ValueOf p × Values rest
Values (Array versions element rest) = List (Values element) × Values rest
Values (NullableArray since element rest) = Option (List (Values element)) × Values rest

------ notation: a field, and those behind it

infixr 2 ◌⨟◌
abbrev pub ◌⨟◌ : (Fields → Fields) → Fields → Fields
(field ⨟ rest) = field rest

abbrev pub boolean : Fields → Fields
boolean = Field Always Boolean false

abbrev pub int8 : Fields → Fields
int8 = Field Always Int8 (pos 0)

abbrev pub int16 : Fields → Fields
int16 = Field Always Int16 (pos 0)

abbrev pub int32 : Fields → Fields
int32 = Field Always Int32 (pos 0)

abbrev pub int64 : Fields → Fields
int64 = Field Always Int64 (pos 0)

abbrev pub string : Fields → Fields
string = Field Always Text []

abbrev pub nullable_string : Fields → Fields
nullable_string = Field Always NullableText None

abbrev pub bytes : Fields → Fields
bytes = Field Always Bytes []

abbrev pub nullable_bytes : Fields → Fields
nullable_bytes = Field Always NullableBytes None

-- a field that versions from this one on have, and its value in those before
abbrev pub since : ℕ → (p : Primitive) → ValueOf p → Fields → Fields
since first = Field (Since first)

-- one that this version alone has
abbrev pub only : ℕ → (p : Primitive) → ValueOf p → Fields → Fields
only one = Field (Only one)

abbrev pub array : Fields → Fields → Fields
array = Array Always
