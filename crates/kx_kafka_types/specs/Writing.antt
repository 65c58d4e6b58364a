-- What is written of values, and which values can be.
use Rattle.std.specs.Prelude.{◌≡◌, ◌<◌, ◌≤◌, ◌+◌, ◌^◌, ℕ, ℤ, pos, negsuc, List, [], ◌++◌, length}
use Rattle.std.specs.Prelude.{Bool, true, false, Option, Some, None, nat_lt, ◌==◌, if◌then◌else◌}
use Rattle.std.specs.List.{flat_map, AllByRecursion}
use Rattle.std.specs.Int.{Width, w8, w16, w32, w64}
use Rattle.std.specs.Int.RustNames.{FitsSigned}
use Rattle.kx_varint.specs.BigEndian.{unsigned_text, signed_text}
use Rattle.kx_varint.specs.Varint.{shortest_text, unzigzag}
use Rattle.kx_kafka_types.specs.declared.version.Version.{Version}
use Rattle.kx_kafka_types.specs.Schema.{Primitive, Boolean, Int8, Int16, Int32, Int64, Text}
use Rattle.kx_kafka_types.specs.Schema.{NullableText, Bytes, NullableBytes, ValueOf, Versions}
use Rattle.kx_kafka_types.specs.Schema.{Always, Since, Only, Fields, End, One, Field, Array}
use Rattle.kx_kafka_types.specs.Schema.{NullableArray, Values}

------ primitive types

abbrev pub flag_byte : Bool → ℕ
flag_byte false = 0
flag_byte true = 1

unfoldable pub boolean_text : Bool → List ℕ
boolean_text flag = unsigned_text w8 (flag_byte flag)

unfoldable pub unsigned_varint_text : ℕ → List ℕ
unsigned_varint_text n = shortest_text (unzigzag n)

-- a length, or null, as a number of fixed width and as one in a flexible version
abbrev pub plain_length : Option ℕ → ℤ
plain_length None = negsuc 0
plain_length (Some n) = pos n

abbrev pub compact_count : Option ℕ → ℕ
compact_count None = 0
compact_count (Some n) = n + 1

unfoldable pub length_text : Version → Width → Option ℕ → List ℕ
length_text version w n =
    if version.flexible then unsigned_varint_text (compact_count n)
    else signed_text w (plain_length n)

unfoldable pub counted_text : Version → Width → List ℕ → List ℕ
counted_text version w bytes = length_text version w (Some (length bytes)) ++ bytes

abbrev pub nullable_text : Version → Width → Option (List ℕ) → List ℕ
nullable_text version w None = length_text version w None
nullable_text version w (Some bytes) = counted_text version w bytes

abbrev pub primitive_text : Version → (p : Primitive) → ValueOf p → List ℕ
primitive_text version Boolean flag = boolean_text flag
primitive_text version Int8 z = signed_text w8 z
primitive_text version Int16 z = signed_text w16 z
primitive_text version Int32 z = signed_text w32 z
primitive_text version Int64 z = signed_text w64 z
primitive_text version Text bytes = counted_text version w16 bytes
primitive_text version NullableText bytes = nullable_text version w16 bytes
primitive_text version Bytes bytes = counted_text version w32 bytes
primitive_text version NullableBytes bytes = nullable_text version w32 bytes

------ structs

-- what these versions have
abbrev pub text_in : Versions → Version → List ℕ → List ℕ
text_in Always version text = text
text_in (Since first) version text = if nat_lt version.number first then [] else text
text_in (Only one) version text = if version.number == one then text else []

-- no tagged fields
unfoldable pub end_text : Version → List ℕ
end_text version = if version.flexible then unsigned_varint_text 0 else []

unfoldable pub array_text : {A : Type 0} → Version → (A → List ℕ) → List A → List ℕ
array_text version text xs = length_text version w32 (Some (length xs)) ++ flat_map text xs

abbrev pub nullable_array_text : {A : Type 0} → Version → (A → List ℕ) → Option (List A) → List ℕ
nullable_array_text version text None = length_text version w32 None
nullable_array_text version text (Some xs) = array_text version text xs

-- the fields of a struct, one behind the other
abbrev pub fields_text : Version → (fields : Fields) → Values fields → List ℕ
fields_text version End v = end_text version
fields_text version (One p) v = primitive_text version p v
fields_text version (Field versions p other rest) v =
    text_in versions version (primitive_text version p v.0) ++ fields_text version rest v.1
fields_text version (Array versions element rest) v =
    text_in versions version (array_text version (fields_text version element) v.0)
    ++ fields_text version rest v.1
fields_text version (NullableArray since element rest) v =
    nullable_array_text version (fields_text version element) v.0 ++ fields_text version rest v.1

-- a text with the fields behind it, as they are appended
abbrev pub fields_onto : Version → (fields : Fields) → Values fields → List ℕ → List ℕ
fields_onto version End v front = front ++ end_text version
fields_onto version (One p) v front = front ++ primitive_text version p v
fields_onto version (Field versions p other rest) v front =
    fields_onto version rest v.1 (front ++ text_in versions version (primitive_text version p v.0))
fields_onto version (Array versions element rest) v front =
    fields_onto version rest v.1
    (front ++ text_in versions version (array_text version (fields_text version element) v.0))
fields_onto version (NullableArray since element rest) v front =
    fields_onto version rest v.1
    (front ++ nullable_array_text version (fields_text version element) v.0)

------ which values can be written

-- no string is longer than 32767 bytes, and no array or other text than 2147483647
abbrev pub FitsLength : ℕ → Option (List ℕ) → Type 0
FitsLength most None = Unit {0}
FitsLength most (Some bytes) = length bytes < most

abbrev pub FitsPrimitive : (p : Primitive) → ValueOf p → Type 0
FitsPrimitive Boolean flag = Unit {0}
FitsPrimitive Int8 z = FitsSigned w8 z
FitsPrimitive Int16 z = FitsSigned w16 z
FitsPrimitive Int32 z = FitsSigned w32 z
FitsPrimitive Int64 z = FitsSigned w64 z
FitsPrimitive Text bytes = length bytes < 2 ^ 15
FitsPrimitive NullableText bytes = FitsLength (2 ^ 15) bytes
FitsPrimitive Bytes bytes = length bytes < 2 ^ 31
FitsPrimitive NullableBytes bytes = FitsLength (2 ^ 31) bytes

-- where these versions have it
abbrev pub FitsIn : Versions → Version → Type 0 → Type 0
FitsIn Always version P = P
FitsIn (Since first) version P = first ≤ version.number → P
FitsIn (Only one) version P = version.number ≡ one → P

abbrev pub FitsArray : {A : Type 0} → (A → Type 0) → List A → Type 0
FitsArray P xs = (length xs < 2 ^ 31) × AllByRecursion P xs

-- null from this version on
abbrev pub FitsNullable : {A : Type 0} → ℕ → Version → (A → Type 0) → Option (List A) → Type 0
FitsNullable since version P None = since ≤ version.number
FitsNullable since version P (Some xs) = FitsArray P xs

abbrev pub Fits : Version → (fields : Fields) → Values fields → Type 0
Fits version End v = Unit {0}
Fits version (One p) v = FitsPrimitive p v
Fits version (Field versions p other rest) v =
    FitsIn versions version (FitsPrimitive p v.0) × Fits version rest v.1
Fits version (Array versions element rest) v =
    FitsIn versions version (FitsArray (Fits version element) v.0) × Fits version rest v.1
Fits version (NullableArray since element rest) v =
    FitsNullable since version (Fits version element) v.0 × Fits version rest v.1
