-- Reading values from the front of some bytes.
use Rattle.std.specs.Prelude.{ℕ, zero, suc, ℤ, pos, negsuc, List, [], ◌∷◌, length, take, drop}
use Rattle.std.specs.Prelude.{Bool, true, false, Option, Some, None, Result, Ok, Err, nat_lt, ◌==◌}
use Rattle.std.specs.Prelude.{if◌then◌else◌}
use Rattle.std.specs.Int.{Width, w8, w16, w32, w64}
use Rattle.kx_varint.specs.declared.fault.VarFault.{VarFault}
use Rattle.kx_varint.specs.declared.fault.VarFault.TheVariants as var
use Rattle.kx_varint.specs.BigEndian.{unsigned_field, signed_field}
use Rattle.kx_varint.specs.Varint.{varint, value_at, zigzag}
use Rattle.kx_kafka_types.specs.declared.version.Version.{Version}
use Rattle.kx_kafka_types.specs.declared.fault.KafkaFault.{KafkaFault}
use Rattle.kx_kafka_types.specs.declared.fault.KafkaFault.TheVariants as fault
use Rattle.kx_kafka_types.specs.Schema.{Primitive, Boolean, Int8, Int16, Int32, Int64, Text}
use Rattle.kx_kafka_types.specs.Schema.{NullableText, Bytes, NullableBytes, ValueOf, Versions}
use Rattle.kx_kafka_types.specs.Schema.{Always, Since, Only, Fields, End, One, Field, Array, NullableArray, Values}

-- a value and the bytes behind it, or why there is none
abbrev pub Reader : Type 0 → Type 0
Reader A = List ℕ → Result (A × List ℕ) KafkaFault

abbrev pub goes_on : {A B : Type 0} → (A → Reader B) → Result (A × List ℕ) KafkaFault
    → Result (B × List ℕ) KafkaFault
goes_on next (Ok x) = next x.0 x.1
goes_on next (Err f) = Err f

-- the second reader goes on where the first ended
infixl 10 ◌>>=◌
abbrev pub ◌>>=◌ : {A B : Type 0} → Reader A → (A → Reader B) → Reader B
(first >>= next) bytes = goes_on next (first bytes)

-- reads nothing, and gives this value
abbrev pub gives : {A : Type 0} → A → Reader A
gives x bytes = Ok (x, bytes)

abbrev pub fails : {A : Type 0} → KafkaFault → Reader A
fails f bytes = Err f

-- reads nothing, and gives this value if there is one
abbrev pub judged : {A : Type 0} → Result A KafkaFault → Reader A
judged (Ok x) bytes = Ok (x, bytes)
judged (Err f) bytes = Err f

------ numbers

abbrev pub fault_of : VarFault → KafkaFault
fault_of var.Short = fault.Short
fault_of var.TooLong = fault.Field

abbrev pub number_or : {A : Type 0} → Result (A × List ℕ) VarFault → Result (A × List ℕ) KafkaFault
number_or (Ok x) = Ok x
number_or (Err f) = Err (fault_of f)

-- INT8 to INT64
unfoldable pub signed : Width → Reader ℤ
signed w bytes = number_or (signed_field w bytes)

abbrev pub unsigned_or : List ℕ → Result (ℤ × ℕ) VarFault → Result (ℕ × List ℕ) KafkaFault
unsigned_or bytes (Ok x) = Ok (zigzag x.0, drop x.1 bytes)
unsigned_or bytes (Err f) = Err (fault_of f)

-- UNSIGNED_VARINT: the groups of a varint, whose sum is the number itself
unfoldable pub unsigned_varint : Reader ℕ
unsigned_varint bytes = unsigned_or bytes (value_at varint bytes)

abbrev pub flag_with : ℕ → Reader Bool
flag_with zero = gives false
flag_with (suc zero) = gives true
flag_with (suc (suc n)) = fails fault.Field

-- BOOLEAN: 0 or 1
unfoldable pub boolean : Reader Bool
boolean bytes = goes_on flag_with (number_or (unsigned_field w8 bytes))

------ lengths

-- -1 is null
abbrev pub length_with : ℤ → Result (Option ℕ) KafkaFault
length_with (pos n) = Ok (Some n)
length_with (negsuc zero) = Ok None
length_with (negsuc (suc n)) = Err fault.Field

-- 0 is null, and n + 1 the length n
abbrev pub compact_with : ℕ → Option ℕ
compact_with zero = None
compact_with (suc n) = Some n

unfoldable pub compact_length : Reader (Option ℕ)
compact_length = do
  n ← unsigned_varint
  gives (compact_with n)

-- how many bytes or elements follow, or null
unfoldable pub length_at : Version → Width → Reader (Option ℕ)
length_at version w =
    if version.flexible then compact_length else (signed w >>= λ n. judged (length_with n))

-- so many bytes
unfoldable pub taken : ℕ → Reader (List ℕ)
taken n bytes =
    if nat_lt (length bytes) n then Err fault.Short else Ok (take n bytes, drop n bytes)

abbrev pub some_taken : Option ℕ → Reader (List ℕ)
some_taken None = fails fault.Field
some_taken (Some n) = taken n

abbrev pub some_of : List ℕ → Reader (Option (List ℕ))
some_of bytes = gives (Some bytes)

abbrev pub none_or_taken : Option ℕ → Reader (Option (List ℕ))
none_or_taken None = gives None
none_or_taken (Some n) = taken n >>= some_of

unfoldable pub counted : Version → Width → Reader (List ℕ)
counted version w = length_at version w >>= some_taken

unfoldable pub nullable : Version → Width → Reader (Option (List ℕ))
nullable version w = length_at version w >>= none_or_taken

-- a value of a primitive type
abbrev pub primitive_at : Version → (p : Primitive) → Reader (ValueOf p)
primitive_at version Boolean = boolean
primitive_at version Int8 = signed w8
primitive_at version Int16 = signed w16
primitive_at version Int32 = signed w32
primitive_at version Int64 = signed w64
primitive_at version Text = counted version w16
primitive_at version NullableText = nullable version w16
primitive_at version Bytes = counted version w32
primitive_at version NullableBytes = nullable version w32

------ structs

-- so many of one kind, one behind the other
unfoldable pub repeated : {A : Type 0} → Reader A → ℕ → Reader (List A)
repeated read zero = gives []
repeated read (suc n) = do
  x ← read
  xs ← repeated read n
  gives (x ∷ xs)

-- a tagged field is skipped: its tag, its size, and that many bytes
unfoldable pub tag_at : Reader (Unit {0})
tag_at = do
  tag ← unsigned_varint
  size ← unsigned_varint
  field ← taken size
  gives tt

unfoldable pub tags_at : Reader (Unit {0})
tags_at = do
  count ← unsigned_varint
  tags ← repeated tag_at count
  gives tt

-- the end of a struct: tagged fields in a flexible version
unfoldable pub end_at : Version → Reader (Unit {0})
end_at version = if version.flexible then tags_at else gives tt

-- what these versions have; in any other it has this value
abbrev pub where_in : {A : Type 0} → Versions → Version → Reader A → A → Reader A
where_in Always version read other = read
where_in (Since first) version read other =
    if nat_lt version.number first then gives other else read
where_in (Only one) version read other = if version.number == one then read else gives other

abbrev pub some_length : Option ℕ → Reader ℕ
some_length None = fails fault.Field
some_length (Some n) = gives n

unfoldable pub array_length : Version → Reader ℕ
array_length version = length_at version w32 >>= some_length

abbrev pub some_list : {A : Type 0} → List A → Reader (Option (List A))
some_list xs = gives (Some xs)

abbrev pub null_from : ℕ → Version → Option ℕ → Reader (Option ℕ)
null_from since version None =
    if nat_lt version.number since then fails fault.Field else gives None
null_from since version (Some n) = gives (Some n)

-- how many elements follow, or null if the version has it
unfoldable pub nullable_length : Version → ℕ → Reader (Option ℕ)
nullable_length version since = length_at version w32 >>= null_from since version

abbrev pub none_or_elements : {A : Type 0} → Reader A → Option ℕ → Reader (Option (List A))
none_or_elements read None = gives None
none_or_elements read (Some n) = repeated read n >>= some_list

-- an array: how many elements there are, and the elements
unfoldable pub array_at : {A : Type 0} → Version → Reader A → Reader (List A)
array_at version read = do
  count ← array_length version
  repeated read count

unfoldable pub nullable_array_at : {A : Type 0} → Version → ℕ → Reader A → Reader (Option (List A))
nullable_array_at version since read = nullable_length version since >>= none_or_elements read

-- the fields of a struct, one behind the other
abbrev pub fields_at : Version → (fields : Fields) → Reader (Values fields)
fields_at version End = end_at version
fields_at version (One p) = primitive_at version p
fields_at version (Field versions p other rest) = do
  x ← where_in versions version (primitive_at version p) other
  xs ← fields_at version rest
  gives (x, xs)
fields_at version (Array versions element rest) = do
  x ← where_in versions version (array_at version (fields_at version element)) []
  xs ← fields_at version rest
  gives (x, xs)
fields_at version (NullableArray since element rest) = do
  x ← nullable_array_at version since (fields_at version element)
  xs ← fields_at version rest
  gives (x, xs)
