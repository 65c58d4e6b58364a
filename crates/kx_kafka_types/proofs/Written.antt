-- What is written spells the values, as the version has them.
use Rattle.std.proofs.Common.{◌≡◌, ℕ, ℤ, ◌<◌, ◌^◌, ◌*◌, Bool}
use Rattle.std.proofs.Common.{true, false, cond, ltb, eqb, List, [], ◌∷◌, ◌++◌, length, map, Option}
use Rattle.std.proofs.Common.{Some, None, refl, sym, ap, subst, arith, lit<, lit≤, option_map}
use Rattle.std.specs.List.{flat_map, AllByRecursion}
use Rattle.std.specs.Int.{Width, w8, w16, w32, w64}
use Rattle.std.specs.Int.RustNames.{FitsSigned}
use Rattle.std.proofs.lemmas.Bool.{ltb-false, eqb-true}
use Rattle.std.proofs.lemmas.List.{length-map}
use Rattle.std.proofs.lemmas.List.Concat.{flat_map-cons}
use Rattle.kx_varint.specs.BigEndian.{Signed, signed_text, unsigned_text}
use Rattle.kx_varint.specs.Varint.{varint, zigzag, unzigzag}
use Rattle.kx_varint.specs.Text.{Exactly}
use Rattle.kx_varint.proofs.Laws.{zigzag_of}
use Rattle.kx_varint.proofs.Writing.{shortest}
use Rattle.kx_kafka_types.specs.declared.version.Version.{Version}
use Rattle.kx_kafka_types.specs.Schema as schema
use Rattle.kx_kafka_types.specs.Schema.{Primitive, ValueOf, Versions, Fields, Values}
use Rattle.kx_kafka_types.specs.Writing.{boolean_text, unsigned_varint_text}
use Rattle.kx_kafka_types.specs.Writing.{plain_length, compact_count, length_text, counted_text}
use Rattle.kx_kafka_types.specs.Writing.{nullable_text, primitive_text, text_in, end_text}
use Rattle.kx_kafka_types.specs.Writing.{array_text, nullable_array_text, fields_text, FitsLength}
use Rattle.kx_kafka_types.specs.Writing.{FitsPrimitive, FitsIn, FitsArray, FitsNullable, Fits}
use Rattle.kx_kafka_types.specs.Spelling.{Either, Each, SpellsUnsigned, SpellsLength, SpellsCounted}
use Rattle.kx_kafka_types.specs.Spelling.{SpellsNullable, SpellsBoolean, SpellsPrimitive, SpellsTags}
use Rattle.kx_kafka_types.specs.Spelling.{SpellsEnd, Absent, SpellsIn, SpellsArray}
use Rattle.kx_kafka_types.specs.Spelling.{SpellsNullableArray, Spells}
use Rattle.kx_kafka_types.specs.Seen.{seen_in, seen}

------ primitive types

signed_written : (w : Width) (z : ℤ) → FitsSigned w z → Signed w z (signed_text w z)
unfolding signed_text
signed_written w z f = record { fits = f; is = refl }

boolean_written : (flag : Bool) → SpellsBoolean flag (boolean_text flag)
unfolding boolean_text unsigned_text
boolean_written true = refl
boolean_written false = refl

unsigned_written : (n : ℕ) → n < 2 ^ 32 → SpellsUnsigned n (unsigned_varint_text n)
unfolding unsigned_varint_text
unsigned_written n lt =
    let fits : zigzag (unzigzag n) < 16 * 128 ^ 4 =
    subst (λ (m : ℕ). m < 16 * 128 ^ 4) (sym (zigzag_of n)) lt in
    (shortest varint (unzigzag n) (lit< tt) (lit< tt) (lit≤ tt) fits).spells

either_written : (P Q : List ℕ → Type 0) (t u : List ℕ) (b : Bool) → P t → Q u
    → Either b P Q (cond b t u)
either_written P Q t u true p q = p
either_written P Q t u false p q = q

pub record IsLength (w : Width) (n : Option ℕ) : Type 0 where
  pub plain : FitsSigned w (plain_length n)
  pub compact : compact_count n < 2 ^ 32

length_written : (version : Version) (w : Width) (n : Option ℕ) → IsLength w n
    → SpellsLength version w n (length_text version w n)
unfolding length_text
length_written version w n h =
    either_written (SpellsUnsigned (compact_count n)) (Signed w (plain_length n))
    (unsigned_varint_text (compact_count n)) (signed_text w (plain_length n)) version.flexible
    (unsigned_written (compact_count n) h.compact)
    (signed_written w (plain_length n) h.plain)

short_none : IsLength w16 None
short_none = record { plain = omega arith; compact = lit< tt }

long_none : IsLength w32 None
long_none = record { plain = omega arith; compact = lit< tt }

short_some : (n : ℕ) → n < 2 ^ 15 → IsLength w16 (Some n)
short_some n h = record { plain = omega arith; compact = omega arith }

long_some : (n : ℕ) → n < 2 ^ 31 → IsLength w32 (Some n)
long_some n h = record { plain = omega arith; compact = omega arith }

counted_written : (version : Version) (w : Width) (bytes : List ℕ)
    → IsLength w (Some (length bytes))
    → SpellsCounted version w bytes (counted_text version w bytes)
unfolding counted_text
counted_written version w bytes h = record {
  front = length_text version w (Some (length bytes));
  back = bytes;
  first = length_written version w (Some (length bytes)) h;
  second = refl;
  parts = refl;
}

text_written : (version : Version) (bytes : Option (List ℕ)) → FitsLength (2 ^ 15) bytes
    → SpellsNullable version w16 bytes (nullable_text version w16 bytes)
text_written version None h = length_written version w16 None short_none
text_written version (Some bytes) h =
    counted_written version w16 bytes (short_some (length bytes) h)

bytes_written : (version : Version) (bytes : Option (List ℕ)) → FitsLength (2 ^ 31) bytes
    → SpellsNullable version w32 bytes (nullable_text version w32 bytes)
bytes_written version None h = length_written version w32 None long_none
bytes_written version (Some bytes) h =
    counted_written version w32 bytes (long_some (length bytes) h)

pub primitive_written : (version : Version) (p : Primitive) (x : ValueOf p) → FitsPrimitive p x
    → SpellsPrimitive version p x (primitive_text version p x)
primitive_written version schema.Boolean x h = boolean_written x
primitive_written version schema.Int8 x h = signed_written w8 x h
primitive_written version schema.Int16 x h = signed_written w16 x h
primitive_written version schema.Int32 x h = signed_written w32 x h
primitive_written version schema.Int64 x h = signed_written w64 x h
primitive_written version schema.Text x h =
    counted_written version w16 x (short_some (length x) h)
primitive_written version schema.NullableText x h = text_written version x h
primitive_written version schema.Bytes x h =
    counted_written version w32 x (long_some (length x) h)
primitive_written version schema.NullableBytes x h = bytes_written version x h

------ structs

end_written : (version : Version) → SpellsEnd version (end_text version)
unfolding end_text
end_written version = either_written SpellsTags (Exactly []) (unsigned_varint_text 0) []
    version.flexible (
      [],
      record {
        front = unsigned_varint_text 0;
        back = [];
        first = unsigned_written 0 (lit< tt);
        second = refl;
        parts = no_more (unsigned_varint_text 0);
      },
    )
    refl
  where
    no_more : (t : List ℕ) → t ≡ t ++ []
    no_more [] = refl
    no_more (x ∷ t) = ap (λ (u : List ℕ). x ∷ u) (no_more t)

since_written : {A : Type 0} (P : A → List ℕ → Type 0) (b : Bool) (other x : A) (text : List ℕ)
    → (b ≡ false → P x text)
    → Either b (Absent other (cond b other x)) (P (cond b other x)) (cond b [] text)
since_written P true other x text h = (refl, refl)
since_written P false other x text h = h refl

only_written : {A : Type 0} (P : A → List ℕ → Type 0) (b : Bool) (other x : A) (text : List ℕ)
    → (b ≡ true → P x text)
    → Either b (P (cond b x other)) (Absent other (cond b x other)) (cond b text [])
only_written P true other x text h = h refl
only_written P false other x text h = (refl, refl)

in_written : {A : Type 0} (P : A → List ℕ → Type 0) (F : Type 0) (versions : Versions)
    (version : Version) (other x : A) (text : List ℕ) → FitsIn versions version F
    → (F → P x text)
    → SpellsIn versions version P other (seen_in versions version other x)
    (text_in versions version text)
in_written P F schema.Always version other x text f h = h f
in_written P F (schema.Since first) version other x text f h =
    since_written P (ltb version.number first) other x text
    (λ e. h (f (ltb-false version.number first e)))
in_written P F (schema.Only one) version other x text f h =
    only_written P (eqb version.number one) other x text
    (λ e. h (f (eqb-true version.number one e)))

each_written : {A : Type 0} (P : A → List ℕ → Type 0) (F : A → Type 0) (text : A → List ℕ)
    (see : A → A) → ((x : A) → F x → P (see x) (text x)) → (xs : List A) → AllByRecursion F xs
    → Each P (map see xs) (flat_map text xs)
each_written P F text see h [] f = refl
each_written P F text see h (x ∷ xs) f = record {
  front = text x;
  back = flat_map text xs;
  first = h x f.0;
  second = each_written P F text see h xs f.1;
  parts = flat_map-cons text x xs;
}

array_written : {A : Type 0} (version : Version) (P : A → List ℕ → Type 0) (F : A → Type 0)
    (text : A → List ℕ) (see : A → A) → ((x : A) → F x → P (see x) (text x)) → (xs : List A)
    → FitsArray F xs → SpellsArray version P (map see xs) (array_text version text xs)
unfolding array_text
array_written version P F text see h xs f = record {
  front = length_text version w32 (Some (length xs));
  back = flat_map text xs;
  first = subst (λ (n : ℕ). SpellsLength version w32 (Some n)
      (length_text version w32 (Some (length xs)))) (sym (length-map xs see))
      (length_written version w32 (Some (length xs)) (long_some (length xs) f.0));
  second = each_written P F text see h xs f.1;
  parts = refl;
}

nullable_array_written : {A : Type 0} (version : Version) (since : ℕ) (P : A → List ℕ → Type 0)
    (F : A → Type 0) (text : A → List ℕ) (see : A → A) → ((x : A) → F x → P (see x) (text x))
    → (xs : Option (List A)) → FitsNullable since version F xs
    → SpellsNullableArray version since P (option_map (map see) xs)
    (nullable_array_text version text xs)
nullable_array_written version since P F text see h None f =
    (f, length_written version w32 None long_none)
nullable_array_written version since P F text see h (Some xs) f =
    array_written version P F text see h xs f

pub written : (version : Version) (fields : Fields) (v : Values fields) → Fits version fields v
    → Spells version fields (seen version fields v) (fields_text version fields v)
written version schema.End v f = end_written version
written version (schema.One p) v f = primitive_written version p v f
written version (schema.Field versions p other rest) v f = record {
  front = text_in versions version (primitive_text version p v.0);
  back = fields_text version rest v.1;
  first = in_written (SpellsPrimitive version p) (FitsPrimitive p v.0) versions version other v.0
      (primitive_text version p v.0) f.0 (primitive_written version p v.0);
  second = written version rest v.1 f.1;
  parts = refl;
}
written version (schema.Array versions element rest) v f = record {
  front = text_in versions version (array_text version (fields_text version element) v.0);
  back = fields_text version rest v.1;
  first = in_written (SpellsArray version (Spells version element))
      (FitsArray (Fits version element) v.0) versions version []
      (map (seen version element) v.0)
      (array_text version (fields_text version element) v.0) f.0
      (array_written version (Spells version element) (Fits version element)
      (fields_text version element) (seen version element) (written version element) v.0);
  second = written version rest v.1 f.1;
  parts = refl;
}
written version (schema.NullableArray since element rest) v f = record {
  front = nullable_array_text version (fields_text version element) v.0;
  back = fields_text version rest v.1;
  first = nullable_array_written version since (Spells version element) (Fits version element)
      (fields_text version element) (seen version element) (written version element) v.0 f.0;
  second = written version rest v.1 f.1;
  parts = refl;
}
