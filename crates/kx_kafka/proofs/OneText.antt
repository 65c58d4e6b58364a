-- A request in a version that isn't flexible has one text: its values say each byte.
use Rattle.std.proofs.Common.{◌≡◌, ℕ, ℤ, pos, Bool, true, false, List, [], ◌∷◌, ◌++◌, length, Option}
use Rattle.std.proofs.Common.{Some, None, refl, sym, ap, ◌∙◌, Ok}
use Rattle.std.specs.Prelude.{nat_lt, ◌==◌}
use Rattle.std.specs.Int.{Width, w8, w16, w32, w64}
use Rattle.kx_varint.specs.BigEndian.{Signed}
use Rattle.kx_varint.specs.Text.{◌⊳◌, Exactly, IsBytes}
use Rattle.kx_kafka_types.specs.declared.version.Version.{Version}
use Rattle.kx_kafka_types.specs.Schema.{Primitive, Boolean, Int8, Int16, Int32, Int64, Text}
use Rattle.kx_kafka_types.specs.Schema.{NullableText, Bytes, NullableBytes, ValueOf, Versions}
use Rattle.kx_kafka_types.specs.Schema.{Always, Since, Only, Fields, End, One, Field, Array}
use Rattle.kx_kafka_types.specs.Schema.{NullableArray, Values}
use Rattle.kx_kafka_types.specs.Writing.{plain_length}
use Rattle.kx_kafka_types.specs.Spelling.{Either, Each, SpellsLength, SpellsCounted}
use Rattle.kx_kafka_types.specs.Spelling.{SpellsNullable, SpellsPrimitive, SpellsEnd}
use Rattle.kx_kafka_types.specs.Spelling.{Absent, SpellsIn, SpellsArray, SpellsNullableArray, Spells}
use Rattle.kx_kafka.specs.Layouts.{request_front}
use Rattle.kx_kafka.specs.Apis.{number_of, request_fields}
use Rattle.kx_kafka.specs.Requests.{Header, Body, plain, request_at}
use Rattle.kx_kafka.specs.Spelling.{SpellsRequest}
use Rattle.kx_kafka.proofs.Exact.{request_takes}

-- no two texts
abbrev Alone : (List ℕ → Type 0) → Type 0
Alone P = (t u : List ℕ) → P t → P u → t ≡ u

both_alone : {P Q : List ℕ → Type 0} → Alone P → Alone Q → Alone (P ⊳ Q)
both_alone p q t u a b =
    a.parts ∙ ap (λ (x : List ℕ). x ++ a.back) (p a.front b.front a.first b.first)
    ∙ ap (λ (x : List ℕ). b.front ++ x) (q a.back b.back a.second b.second) ∙ sym b.parts

exactly_alone : (bytes : List ℕ) → Alone (Exactly bytes)
exactly_alone bytes t u a b = a ∙ sym b

signed_alone : (w : Width) (z : ℤ) → Alone (Signed w z)
signed_alone w z t u a b = a.is ∙ sym b.is

second_alone : (P : List ℕ → Type 0) {Q : List ℕ → Type 0} (b : Bool) → b ≡ false → Alone Q
    → Alone (Either b P Q)
second_alone P true e q = absurd cc
second_alone P false e q = q

either_alone : {P Q : List ℕ → Type 0} (b : Bool) → Alone P → Alone Q → Alone (Either b P Q)
either_alone true p q = p
either_alone false p q = q

each_alone : {A : Type 0} {P : A → List ℕ → Type 0} (xs : List A) → ((x : A) → Alone (P x))
    → Alone (Each P xs)
each_alone [] p = exactly_alone []
each_alone (x ∷ xs) p = both_alone (p x) (each_alone xs p)

------ fields

length_alone : (version : Version) (w : Width) (n : Option ℕ) → version.flexible ≡ false
    → Alone (SpellsLength version w n)
length_alone version w n e = second_alone _ version.flexible e (signed_alone w (plain_length n))

counted_alone : (version : Version) (w : Width) (bytes : List ℕ) → version.flexible ≡ false
    → Alone (SpellsCounted version w bytes)
counted_alone version w bytes e =
    both_alone (length_alone version w (Some (length bytes)) e) (exactly_alone bytes)

nullable_alone : (version : Version) (w : Width) (bytes : Option (List ℕ))
    → version.flexible ≡ false → Alone (SpellsNullable version w bytes)
nullable_alone version w None e = length_alone version w None e
nullable_alone version w (Some bytes) e = counted_alone version w bytes e

primitive_alone : (version : Version) (p : Primitive) (v : ValueOf p) → version.flexible ≡ false
    → Alone (SpellsPrimitive version p v)
primitive_alone version Boolean v e = exactly_alone _
primitive_alone version Int8 v e = signed_alone w8 v
primitive_alone version Int16 v e = signed_alone w16 v
primitive_alone version Int32 v e = signed_alone w32 v
primitive_alone version Int64 v e = signed_alone w64 v
primitive_alone version Text v e = counted_alone version w16 v e
primitive_alone version NullableText v e = nullable_alone version w16 v e
primitive_alone version Bytes v e = counted_alone version w32 v e
primitive_alone version NullableBytes v e = nullable_alone version w32 v e

end_alone : (version : Version) → version.flexible ≡ false → Alone (SpellsEnd version)
end_alone version e = second_alone _ version.flexible e (exactly_alone [])

absent_alone : {A : Type 0} (other x : A) → Alone (Absent other x)
absent_alone other x t u a b = a.1 ∙ sym b.1

in_alone : {A : Type 0} (P : A → List ℕ → Type 0) (versions : Versions) (version : Version)
    (other x : A) → Alone (P x) → Alone (SpellsIn versions version P other x)
in_alone P Always version other x p = p
in_alone P (Since first) version other x p =
    either_alone (nat_lt version.number first) (absent_alone other x) p
in_alone P (Only one) version other x p =
    either_alone (version.number == one) p (absent_alone other x)

array_alone : {A : Type 0} {P : A → List ℕ → Type 0} (version : Version) (xs : List A)
    → version.flexible ≡ false → ((x : A) → Alone (P x)) → Alone (SpellsArray version P xs)
array_alone version xs e p =
    both_alone (length_alone version w32 (Some (length xs)) e) (each_alone xs p)

nullable_array_alone : {A : Type 0} {P : A → List ℕ → Type 0} (version : Version) (since : ℕ)
    (xs : Option (List A)) → version.flexible ≡ false → ((x : A) → Alone (P x))
    → Alone (SpellsNullableArray version since P xs)
nullable_array_alone version since None e p t u a b =
    length_alone version w32 None e t u a.1 b.1
nullable_array_alone version since (Some xs) e p t u a b = array_alone version xs e p t u a b

fields_alone : (version : Version) (fields : Fields) (v : Values fields)
    → version.flexible ≡ false → Alone (Spells version fields v)
fields_alone version End v e = end_alone version e
fields_alone version (One p) v e = primitive_alone version p v e
fields_alone version (Field versions p other rest) v e =
    both_alone (in_alone _ versions version other v.0 (primitive_alone version p v.0 e))
    (fields_alone version rest v.1 e)
fields_alone version (Array versions element rest) v e =
    both_alone (in_alone _ versions version [] v.0
    (array_alone version v.0 e (λ x. fields_alone version element x e)))
    (fields_alone version rest v.1 e)
fields_alone version (NullableArray since element rest) v e =
    both_alone (nullable_array_alone version since v.0 e
    (λ x. fields_alone version element x e))
    (fields_alone version rest v.1 e)

------ requests

request_alone : (h : Header) (b : Body) → h.version.flexible ≡ false → Alone (SpellsRequest h b)
request_alone h b e t u s r =
    both_alone
    (both_alone
    (fields_alone plain request_front
    (pos (number_of h.api), (pos h.version.number, (h.correlation_id, tt))) refl)
    (both_alone (nullable_alone plain w16 h.client_id refl) (end_alone h.version e)))
    (fields_alone h.version (request_fields b.0) b.1 e) t u s.parts r.parts

pub request_changed : (h : Header) (b : Body) (text other : List ℕ) → IsBytes other
    → h.version.flexible ≡ false → SpellsRequest h b text → request_at other ≡ Ok (h, b)
    → other ≡ text
request_changed h b text other fits e s read =
    request_alone h b e other text (request_takes other (h, b) fits read) s
