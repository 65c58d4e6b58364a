-- Each reader agrees with what a text of its values is, up to the fields of any struct.
use Rattle.std.proofs.Common.{◌≡◌, ℕ, zero, suc, ℤ, pos, negsuc, ◌<◌, ◌≤◌, ◌^◌, Bool, true}
use Rattle.std.proofs.Common.{false, cond, ltb, List, [], ◌∷◌, ◌++◌, length, take, drop, Option}
use Rattle.std.proofs.Common.{Some, None, Result, Ok, Err, refl, sym, ap, ◌∙◌, subst, arith}
use Rattle.std.proofs.Common.{add-one, lit<, eqb}
use Rattle.std.specs.Int.{Width, w8, w16, w32, w64, byte_len, cast_signed, cast_unsigned}
use Rattle.std.specs.Int.{to_be_bytes}
use Rattle.std.proofs.lemmas.Bool.{ltb-false, le-ltb, lt-ltb}
use Rattle.std.proofs.lemmas.Int.{to_z-of_z}
use Rattle.std.proofs.lemmas.List.{take_at, drop_at, take-append-drop, length-append, length-take}
use Rattle.std.proofs.lemmas.List.{append-nil}
use Rattle.kx_varint.specs.declared.fault.VarFault.{VarFault}
use Rattle.kx_varint.specs.declared.fault.VarFault.TheVariants as var
use Rattle.kx_varint.specs.BigEndian.{place_value, Signed}
use Rattle.kx_varint.specs.Varint.{varint, value_at, zigzag, unzigzag}
use Rattle.kx_varint.specs.Varint as groups
use Rattle.kx_varint.specs.Text.{IsBytes, ◌⊳◌, Exactly}
use Rattle.kx_varint.proofs.Agree.{IsBytes-back, IsBytes-front, Took}
use Rattle.kx_varint.proofs.FixedWidth.{IsWide, IsBytes-take, IsBytes-drop, below, wide8, wide16}
use Rattle.kx_varint.proofs.FixedWidth.{wide32, wide64}
use Rattle.kx_varint.proofs.Laws.{zigzag_back, zigzag_of, value_again, value_takes, reads}
use Rattle.kx_kafka_types.specs.declared.version.Version.{Version}
use Rattle.kx_kafka_types.specs.declared.fault.KafkaFault.TheVariants as fault
use Rattle.kx_kafka_types.specs.Schema as schema
use Rattle.kx_kafka_types.specs.Schema.{Primitive, ValueOf, Versions, Fields, Values}
use Rattle.kx_kafka_types.specs.Reading.{Reader, ◌>>=◌, gives, judged}
use Rattle.kx_kafka_types.specs.Reading.{number_or, signed, unsigned_or, unsigned_varint, boolean}
use Rattle.kx_kafka_types.specs.Reading.{length_with, compact_with, compact_length, length_at}
use Rattle.kx_kafka_types.specs.Reading.{taken, some_taken, none_or_taken, counted, nullable}
use Rattle.kx_kafka_types.specs.Reading.{primitive_at, tag_at, tags_at, end_at, where_in}
use Rattle.kx_kafka_types.specs.Reading.{some_length, array_length, array_at, null_from}
use Rattle.kx_kafka_types.specs.Reading.{nullable_length, none_or_elements, nullable_array_at}
use Rattle.kx_kafka_types.specs.Reading.{fields_at, flag_with}
use Rattle.kx_kafka_types.specs.Writing.{flag_byte, plain_length, compact_count}
use Rattle.kx_kafka_types.specs.Spelling.{Either, Each, SpellsUnsigned, SpellsLength, SpellsCounted}
use Rattle.kx_kafka_types.specs.Spelling.{SpellsNullable, SpellsBoolean, SpellsPrimitive, Tagged}
use Rattle.kx_kafka_types.specs.Spelling.{SpellsTagged, SpellsTags, SpellsEnd, Absent, SpellsIn}
use Rattle.kx_kafka_types.specs.Spelling.{SpellsArray, SpellsNullableArray, Spells}
use Rattle.kx_kafka_types.proofs.Agree.{Agrees, ok_is, same, after, mapped, nothing, given}
use Rattle.kx_kafka_types.proofs.Agree.{never, either, pair, SoMany, so_many}

------ numbers of fixed width

signed_guard : (b : Bool) (y x : ℤ × List ℕ)
    → number_or (cond b (Err var.Short) (Ok y)) ≡ Ok x → (b ≡ false) × (y ≡ x)
signed_guard true y x e = absurd cc
signed_guard false y x e = (refl, ok_is y x e)

signed_takes : (w : Width) → IsWide w → (bytes : List ℕ) (x : ℤ × List ℕ) → IsBytes bytes
    → signed w bytes ≡ Ok x → Took (Signed w) bytes x.0 x.1
unfolding signed
signed_takes w wide bytes x fits e =
    let front = take (byte_len w) bytes in
    let g = signed_guard (ltb (length bytes) (byte_len w))
    (cast_signed w (place_value front), drop (byte_len w) bytes) x e in
    let long : byte_len w ≤ length bytes = ltb-false _ _ g.0 in
    let size : length front ≡ byte_len w = omega (arith, length-take (byte_len w) bytes) in
    let ok : IsBytes front = IsBytes-take (byte_len w) bytes fits in
    let lt : place_value front < 256 ^ byte_len w = below w front size ok in
    let same : front ≡ to_be_bytes w (cast_unsigned w (cast_signed w (place_value front))) =
    sym (ap (to_be_bytes w) (wide.unsigned (place_value front) lt) ∙ wide.back front size ok) in
    subst (λ (y : ℤ × List ℕ). Took (Signed w) bytes y.0 y.1) g.1 (record {
      text = front;
      is = record { fits = wide.fits (place_value front) lt; is = same };
      parts = sym (take-append-drop (byte_len w) bytes);
      fits = IsBytes-drop (byte_len w) bytes fits;
    })

signed_again : (w : Width) → IsWide w → (z : ℤ) (t rest : List ℕ) → Signed w z t
    → signed w (t ++ rest) ≡ Ok (z, rest)
unfolding signed
signed_again w wide z t rest h =
    let n = cast_unsigned w z in
    let size : length t ≡ byte_len w = ap length h.is ∙ wide.size n in
    let long : ltb (length (t ++ rest)) (byte_len w) ≡ false =
    le-ltb _ _ (omega (arith, length-append t rest)) in
    let value : cast_signed w (place_value t) ≡ z =
    ap (λ (u : List ℕ). cast_signed w (place_value u)) h.is
    ∙ ap (cast_signed w) (wide.again n (wide.within z h.fits)) ∙ to_z-of_z w z h.fits in
    rw (long, take_at t rest (byte_len w) size, drop_at t rest (byte_len w) size, value) refl

signed_cuts : (w : Width) → IsWide w → (z : ℤ) (t more : List ℕ) → 0 < length more
    → Signed w z (t ++ more) → signed w t ≡ Err fault.Short
unfolding signed
signed_cuts w wide z t more some h =
    let size : length (t ++ more) ≡ byte_len w = ap length h.is ∙ wide.size (cast_unsigned w z) in
    let low : ltb (length t) (byte_len w) ≡ true =
    lt-ltb _ _ (omega (arith, length-append t more)) in
    rw low refl

pub signed_agrees : (w : Width) → IsWide w → Agrees (Signed w) (signed w)
signed_agrees w wide = record {
  takes = signed_takes w wide;
  again = signed_again w wide;
  cuts = λ z t more fits some h. signed_cuts w wide z t more some h;
}

------ UNSIGNED_VARINT

unsigned_ok : (bytes : List ℕ) (r : Result (ℤ × ℕ) VarFault) (x : ℕ × List ℕ)
    → unsigned_or bytes r ≡ Ok x
    → (y : ℤ × ℕ) × (r ≡ Ok y) × ((zigzag y.0, drop y.1 bytes) ≡ x)
unsigned_ok bytes (Ok y) x e = (y, refl, ok_is _ _ e)
unsigned_ok bytes (Err f) x e = absurd cc

rest_is : (bytes t rest : List ℕ) (k : ℕ) → bytes ≡ t ++ rest → k ≡ length t → drop k bytes ≡ rest
rest_is bytes t rest k e f = rw (e, f) (drop_at t rest (length t) refl)

unsigned_takes : (bytes : List ℕ) (x : ℕ × List ℕ) → IsBytes bytes
    → unsigned_varint bytes ≡ Ok x → Took SpellsUnsigned bytes x.0 x.1
unfolding unsigned_varint
unsigned_takes bytes x fits e =
    let o = unsigned_ok bytes (value_at varint bytes) x e in
    let v = value_takes varint bytes o.0 (lit< tt) (lit< tt) fits o.1 in
    let rest : drop o.0.1 bytes ≡ v.1 =
    rest_is bytes v.0 v.1 o.0.1 v.2.parts v.2.count in
    let is : (zigzag o.0.0, v.1) ≡ x =
    ap (λ (r : List ℕ). (zigzag o.0.0, r)) (sym rest) ∙ o.2 in
    subst (λ (y : ℕ × List ℕ). Took SpellsUnsigned bytes y.0 y.1) is (record {
      text = v.0;
      is = subst (λ (z : ℤ). groups.Spells varint z v.0) (sym (zigzag_back o.0.0)) v.2.spells;
      parts = v.2.parts;
      fits = IsBytes-back bytes v.0 v.1 v.2.parts fits;
    })

unsigned_again : (n : ℕ) (t rest : List ℕ) → SpellsUnsigned n t
    → unsigned_varint (t ++ rest) ≡ Ok (n, rest)
unfolding unsigned_varint
unsigned_again n t rest h =
    ap (unsigned_or (t ++ rest)) (value_again varint (unzigzag n) t rest h)
    ∙ ap (λ (r : List ℕ). Ok (zigzag (unzigzag n), r)) (drop_at t rest (length t) refl)
    ∙ ap (λ (m : ℕ). Ok (m, rest)) (zigzag_of n)

unsigned_cuts : (n : ℕ) (t more : List ℕ) → IsBytes (t ++ more) → 0 < length more
    → SpellsUnsigned n (t ++ more) → unsigned_varint t ≡ Err fault.Short
unfolding unsigned_varint
unsigned_cuts n t more fits some h =
    let r = reads varint t (value_at varint t) (lit< tt) (lit< tt)
    (IsBytes-front (t ++ more) t more refl fits) refl in
    ap (unsigned_or t) (r.short.1 (unzigzag n, more, some, h))

pub unsigned_agrees : Agrees SpellsUnsigned unsigned_varint
unsigned_agrees = record {
  takes = unsigned_takes;
  again = unsigned_again;
  cuts = unsigned_cuts;
}

------ BOOLEAN

flag_is : (n : ℕ) (rest : List ℕ) (x : Bool × List ℕ) → flag_with n rest ≡ Ok x
    → (n ≡ flag_byte x.0) × (rest ≡ x.1)
flag_is zero rest x e =
    let h = ok_is (false, rest) x e in
    (ap (λ (y : Bool × List ℕ). flag_byte y.0) h, ap (λ (y : Bool × List ℕ). y.1) h)
flag_is (suc zero) rest x e =
    let h = ok_is (true, rest) x e in
    (ap (λ (y : Bool × List ℕ). flag_byte y.0) h, ap (λ (y : Bool × List ℕ). y.1) h)
flag_is (suc (suc n)) rest x e = absurd cc

byte_front : (b : ℕ) (rest : List ℕ) → boolean (b ∷ rest) ≡ flag_with b rest
unfolding boolean
byte_front b rest =
    let long : ltb (length (b ∷ rest)) 1 ≡ false = le-ltb _ _ (omega arith) in
    let value : place_value (b ∷ []) ≡ b = omega arith in
    rw (long, value) refl

boolean_none : boolean [] ≡ Err fault.Short
unfolding boolean
boolean_none = refl

boolean_takes : (bytes : List ℕ) (x : Bool × List ℕ) → IsBytes bytes → boolean bytes ≡ Ok x
    → Took SpellsBoolean bytes x.0 x.1
boolean_takes [] x fits e = let h = boolean_none in absurd cc
boolean_takes (b ∷ rest) x fits e =
    let h = flag_is b rest x (sym (byte_front b rest) ∙ e) in
    record {
      text = flag_byte x.0 ∷ [];
      is = refl;
      parts = ap (λ (c : ℕ). c ∷ rest) h.0 ∙ ap (λ (r : List ℕ). flag_byte x.0 ∷ r) h.1;
      fits = subst IsBytes h.1 (λ i. fits (suc i));
    }

flag_back : (flag : Bool) (rest : List ℕ) → flag_with (flag_byte flag) rest ≡ Ok (flag, rest)
flag_back true rest = refl
flag_back false rest = refl

boolean_cut : (flag : Bool) (t more : List ℕ) → 0 < length more → t ++ more ≡ flag_byte flag ∷ []
    → t ≡ []
boolean_cut flag [] more some e = refl
boolean_cut flag (b ∷ t) more some e =
    let size : length (b ∷ t ++ more) ≡ 1 = ap length e in
    absurd (omega (arith, length-append t more))

pub boolean_agrees : Agrees SpellsBoolean boolean
boolean_agrees = record {
  takes = boolean_takes;
  again = λ flag t rest h. ap (λ (s : List ℕ). boolean (s ++ rest)) h
      ∙ byte_front (flag_byte flag) rest ∙ flag_back flag rest;
  cuts = λ flag t more fits some h. ap boolean (boolean_cut flag t more some h) ∙ boolean_none;
}

------ lengths

plain_is : (z : ℤ) (o : Option ℕ) → length_with z ≡ Ok o → z ≡ plain_length o
plain_is (pos n) o e = ap plain_length (ok_is (Some n) o e)
plain_is (negsuc zero) o e = ap plain_length (ok_is None o e)
plain_is (negsuc (suc n)) o e = absurd cc

plain_back : (o : Option ℕ) → length_with (plain_length o) ≡ Ok o
plain_back None = refl
plain_back (Some n) = refl

plain_agrees : (w : Width) → IsWide w → Agrees (λ o text. Signed w (plain_length o) text)
    (signed w >>= λ z. judged (length_with z))
plain_agrees w wide = same (after (signed_agrees w wide) (λ z. nothing (length_with z)))
    (λ o t s.
    let j = s.1 in
    let z : s.0 ≡ plain_length o = plain_is s.0 o j.second.0 in
    let whole : t ≡ j.front =
    j.parts ∙ ap (λ (b : List ℕ). j.front ++ b) j.second.1 ∙ append-nil j.front in
    subst (λ (y : ℤ). Signed w y t) z (subst (Signed w s.0) (sym whole) j.first))
    (λ o t h. (
      plain_length o,
      record {
        front = t;
        back = [];
        first = h;
        second = (plain_back o, refl);
        parts = sym (append-nil t);
      },
    ))

compact_back : (n : ℕ) → compact_count (compact_with n) ≡ n
compact_back zero = refl
compact_back (suc n) = omega arith

compact_of : (o : Option ℕ) → compact_with (compact_count o) ≡ o
compact_of None = refl
compact_of (Some n) = rw (add-one n) refl

compact_agrees : Agrees (λ o text. SpellsUnsigned (compact_count o) text) compact_length
unfolding compact_length
compact_agrees = same (mapped unsigned_agrees compact_with)
    (λ o t s. subst (λ (m : ℕ). SpellsUnsigned m t)
    (sym (compact_back s.0) ∙ ap compact_count s.1) s.2)
    (λ o t h. (compact_count o, compact_of o, h))

pub length_agrees : (version : Version) (w : Width) → IsWide w
    → Agrees (SpellsLength version w) (length_at version w)
unfolding length_at
length_agrees version w wide = either version.flexible compact_agrees (plain_agrees w wide)

------ so many bytes

taken_guard : {A : Type 0} (b : Bool) (y x : A × List ℕ)
    → cond b (Err fault.Short) (Ok y) ≡ Ok x → (b ≡ false) × (y ≡ x)
taken_guard true y x e = absurd cc
taken_guard false y x e = (refl, ok_is y x e)

abbrev pub Long : ℕ → List ℕ → List ℕ → Type 0
Long n bytes text = (length bytes ≡ n) × (text ≡ bytes)

taken_takes : (n : ℕ) (bytes : List ℕ) (x : List ℕ × List ℕ) → IsBytes bytes
    → taken n bytes ≡ Ok x → Took (Long n) bytes x.0 x.1
unfolding taken
taken_takes n bytes x fits e =
    let g = taken_guard (ltb (length bytes) n) (take n bytes, drop n bytes) x e in
    let long : n ≤ length bytes = ltb-false _ _ g.0 in
    subst (λ (y : List ℕ × List ℕ). Took (Long n) bytes y.0 y.1) g.1 (record {
      text = take n bytes;
      is = (omega (arith, length-take n bytes), refl);
      parts = sym (take-append-drop n bytes);
      fits = IsBytes-drop n bytes fits;
    })

taken_again : (n : ℕ) (bytes t rest : List ℕ) → Long n bytes t
    → taken n (t ++ rest) ≡ Ok (bytes, rest)
unfolding taken
taken_again n bytes t rest h =
    let size : length t ≡ n = ap length h.1 ∙ h.0 in
    let long : ltb (length (t ++ rest)) n ≡ false =
    le-ltb _ _ (omega (arith, length-append t rest)) in
    rw (long, take_at t rest n size, drop_at t rest n size)
    (ap (λ (b : List ℕ). Ok (b, rest)) h.1)

taken_cuts : (n : ℕ) (bytes t more : List ℕ) → 0 < length more → Long n bytes (t ++ more)
    → taken n t ≡ Err fault.Short
unfolding taken
taken_cuts n bytes t more some h =
    let size : length (t ++ more) ≡ n = ap length h.1 ∙ h.0 in
    let low : ltb (length t) n ≡ true = lt-ltb _ _ (omega (arith, length-append t more)) in
    rw low refl

pub taken_agrees : (n : ℕ) → Agrees (Long n) (taken n)
taken_agrees n = record {
  takes = taken_takes n;
  again = taken_again n;
  cuts = λ b t more fits some h. taken_cuts n b t more some h;
}

------ counted bytes

abbrev SomeBytes : Option ℕ → List ℕ → List ℕ → Type 0
SomeBytes None bytes text = ⊥
SomeBytes (Some n) bytes text = Long n bytes text

some_bytes : (o : Option ℕ) → Agrees (SomeBytes o) (some_taken o)
some_bytes None = never fault.Field
some_bytes (Some n) = taken_agrees n

counted_to : (version : Version) (w : Width) (bytes t : List ℕ) (o : Option ℕ)
    → (SpellsLength version w o ⊳ SomeBytes o bytes) t → SpellsCounted version w bytes t
counted_to version w bytes t None j = absurd j.second
counted_to version w bytes t (Some n) j = record {
  front = j.front;
  back = j.back;
  first = subst (λ (k : ℕ). SpellsLength version w (Some k) j.front) (sym j.second.0) j.first;
  second = j.second.1;
  parts = j.parts;
}

pub counted_agrees : (version : Version) (w : Width) → IsWide w
    → Agrees (SpellsCounted version w) (counted version w)
unfolding counted
counted_agrees version w wide = same (after (length_agrees version w wide) some_bytes)
    (λ bytes t s. counted_to version w bytes t s.0 s.1)
    (λ bytes t j. (
      Some (length bytes),
      record {
        front = j.front;
        back = j.back;
        first = j.first;
        second = (refl, j.second);
        parts = j.parts;
      },
    ))

abbrev NoneOrBytes : Option ℕ → Option (List ℕ) → List ℕ → Type 0
NoneOrBytes None bytes text = (None ≡ bytes) × (text ≡ [])
NoneOrBytes (Some n) bytes text = (s : List ℕ) × (Some s ≡ bytes) × Long n s text

none_or_bytes : (o : Option ℕ) → Agrees (NoneOrBytes o) (none_or_taken o)
none_or_bytes None = given None
none_or_bytes (Some n) = mapped (taken_agrees n) (λ s. Some s)

none_front : (version : Version) (w : Width) (t : List ℕ)
    (j : (SpellsLength version w None ⊳ (λ u. u ≡ [])) t) → SpellsLength version w None t
none_front version w t j =
    let whole : t ≡ j.front =
    j.parts ∙ ap (λ (b : List ℕ). j.front ++ b) j.second ∙ append-nil j.front in
    subst (SpellsLength version w None) (sym whole) j.first

nullable_to : (version : Version) (w : Width) (bytes : Option (List ℕ)) (t : List ℕ)
    (o : Option ℕ) → (SpellsLength version w o ⊳ NoneOrBytes o bytes) t
    → SpellsNullable version w bytes t
nullable_to version w bytes t None j =
    subst (λ (b : Option (List ℕ)). SpellsNullable version w b t) j.second.0
    (none_front version w t (record {
      front = j.front;
      back = j.back;
      first = j.first;
      second = j.second.1;
      parts = j.parts;
    }))
nullable_to version w bytes t (Some n) j =
    subst (λ (b : Option (List ℕ)). SpellsNullable version w b t) j.second.1
    (counted_to version w j.second.0 t (Some n) (record {
      front = j.front;
      back = j.back;
      first = j.first;
      second = j.second.2;
      parts = j.parts;
    }))

nullable_from : (version : Version) (w : Width) (bytes : Option (List ℕ)) (t : List ℕ)
    → SpellsNullable version w bytes t
    → (o : Option ℕ) × (SpellsLength version w o ⊳ NoneOrBytes o bytes) t
nullable_from version w None t h = (
  None,
  record {
    front = t;
    back = [];
    first = h;
    second = (refl, refl);
    parts = sym (append-nil t);
  },
)
nullable_from version w (Some bytes) t j = (
  Some (length bytes),
  record {
    front = j.front;
    back = j.back;
    first = j.first;
    second = (bytes, refl, (refl, j.second));
    parts = j.parts;
  },
)

pub nullable_agrees : (version : Version) (w : Width) → IsWide w
    → Agrees (SpellsNullable version w) (nullable version w)
unfolding nullable
nullable_agrees version w wide = same (after (length_agrees version w wide) none_or_bytes)
    (λ bytes t s. nullable_to version w bytes t s.0 s.1)
    (λ bytes t h. nullable_from version w bytes t h)

pub primitive_agrees : (version : Version) (p : Primitive)
    → Agrees (SpellsPrimitive version p) (primitive_at version p)
primitive_agrees version schema.Boolean = boolean_agrees
primitive_agrees version schema.Int8 = signed_agrees w8 wide8
primitive_agrees version schema.Int16 = signed_agrees w16 wide16
primitive_agrees version schema.Int32 = signed_agrees w32 wide32
primitive_agrees version schema.Int64 = signed_agrees w64 wide64
primitive_agrees version schema.Text = counted_agrees version w16 wide16
primitive_agrees version schema.NullableText = nullable_agrees version w16 wide16
primitive_agrees version schema.Bytes = counted_agrees version w32 wide32
primitive_agrees version schema.NullableBytes = nullable_agrees version w32 wide32

------ arrays

abbrev SomeLength : Option ℕ → ℕ → List ℕ → Type 0
SomeLength None m text = ⊥
SomeLength (Some n) m text = (n ≡ m) × (text ≡ [])

some_lengths : (o : Option ℕ) → Agrees (SomeLength o) (some_length o)
some_lengths None = never fault.Field
some_lengths (Some n) = given n

some_front : (version : Version) (w : Width) (m : ℕ) (t : List ℕ) (o : Option ℕ)
    → (SpellsLength version w o ⊳ SomeLength o m) t → SpellsLength version w (Some m) t
some_front version w m t None j = absurd j.second
some_front version w m t (Some n) j =
    let whole : t ≡ j.front =
    j.parts ∙ ap (λ (b : List ℕ). j.front ++ b) j.second.1 ∙ append-nil j.front in
    subst (λ (k : ℕ). SpellsLength version w (Some k) t) j.second.0
    (subst (SpellsLength version w (Some n)) (sym whole) j.first)

array_length_agrees : (version : Version)
    → Agrees (λ n text. SpellsLength version w32 (Some n) text) (array_length version)
unfolding array_length
array_length_agrees version = same (after (length_agrees version w32 wide32) some_lengths)
    (λ m t s. some_front version w32 m t s.0 s.1)
    (λ m t h. (
      Some m,
      record {
        front = t;
        back = [];
        first = h;
        second = (refl, refl);
        parts = sym (append-nil t);
      },
    ))

array_to : {A : Type 0} (version : Version) (P : A → List ℕ → Type 0) (xs : List A) (t : List ℕ)
    (n : ℕ) → ((λ u. SpellsLength version w32 (Some n) u) ⊳ (λ u. SoMany P n xs u)) t
    → SpellsArray version P xs t
array_to version P xs t n j = record {
  front = j.front;
  back = j.back;
  first = subst (λ (k : ℕ). SpellsLength version w32 (Some k) j.front) (sym j.second.0) j.first;
  second = j.second.1;
  parts = j.parts;
}

pub array_agrees : {A : Type 0} {P : A → List ℕ → Type 0} {R : Reader A} (version : Version)
    → Agrees P R → Agrees (SpellsArray version P) (array_at version R)
unfolding array_at
array_agrees {P = P} version g = same (after (array_length_agrees version) (λ n. so_many g n))
    (λ xs t s. array_to version P xs t s.0 s.1)
    (λ xs t j. (
      length xs,
      record {
        front = j.front;
        back = j.back;
        first = j.first;
        second = (refl, j.second);
        parts = j.parts;
      },
    ))

abbrev NullFrom : ℕ → Version → Option ℕ → Option ℕ → List ℕ → Type 0
NullFrom since version None m text =
    Either (ltb version.number since) (λ u. ⊥) (λ u. (None ≡ m) × (u ≡ [])) text
NullFrom since version (Some n) m text = (Some n ≡ m) × (text ≡ [])

null_agrees : (since : ℕ) (version : Version) (o : Option ℕ)
    → Agrees (NullFrom since version o) (null_from since version o)
null_agrees since version None =
    either (ltb version.number since) (never fault.Field) (given None)
null_agrees since version (Some n) = given (Some n)

-- a length, or null from a version on
abbrev NullLength : ℕ → Version → Option ℕ → List ℕ → Type 0
NullLength since version None text = (since ≤ version.number) × SpellsLength version w32 None text
NullLength since version (Some n) text = SpellsLength version w32 (Some n) text

null_case : (b : Bool) (m : Option ℕ) (u : List ℕ)
    → Either b (λ u. ⊥) (λ u. (None ≡ m) × (u ≡ [])) u → (b ≡ false) × (None ≡ m) × (u ≡ [])
null_case true m u h = absurd h
null_case false m u h = (refl, h.0, h.1)

null_to : (since : ℕ) (version : Version) (m : Option ℕ) (t : List ℕ) (o : Option ℕ)
    → (SpellsLength version w32 o ⊳ NullFrom since version o m) t → NullLength since version m t
null_to since version m t None j =
    let c = null_case (ltb version.number since) m j.back j.second in
    let le : since ≤ version.number = ltb-false _ _ c.0 in
    subst (λ (n : Option ℕ). NullLength since version n t) c.1 (
      le,
      none_front version w32 t (record {
        front = j.front;
        back = j.back;
        first = j.first;
        second = c.2;
        parts = j.parts;
      }),
    )
null_to since version m t (Some n) j =
    subst (λ (k : Option ℕ). NullLength since version k t) j.second.0
    (some_front version w32 n t (Some n) (record {
      front = j.front;
      back = j.back;
      first = j.first;
      second = (refl, j.second.1);
      parts = j.parts;
    }))

null_case_back : (b : Bool) (m : Option ℕ) → b ≡ false → None ≡ m
    → Either b (λ u. ⊥) (λ u. (None ≡ m) × (u ≡ [])) []
null_case_back true m e h = absurd cc
null_case_back false m e h = (h, refl)

null_back : (since : ℕ) (version : Version) (m : Option ℕ) (t : List ℕ)
    → NullLength since version m t
    → (o : Option ℕ) × (SpellsLength version w32 o ⊳ NullFrom since version o m) t
null_back since version None t h = (
  None,
  record {
    front = t;
    back = [];
    first = h.1;
    second = null_case_back (ltb version.number since) None (le-ltb _ _ h.0) refl;
    parts = sym (append-nil t);
  },
)
null_back since version (Some n) t h = (
  Some n,
  record {
    front = t;
    back = [];
    first = h;
    second = (refl, refl);
    parts = sym (append-nil t);
  },
)

null_length_agrees : (since : ℕ) (version : Version)
    → Agrees (NullLength since version) (nullable_length version since)
unfolding nullable_length
null_length_agrees since version =
    same (after (length_agrees version w32 wide32) (null_agrees since version))
    (λ m t s. null_to since version m t s.0 s.1)
    (λ m t h. null_back since version m t h)

abbrev NoneOrMany : {A : Type 0} → (A → List ℕ → Type 0) → Option ℕ → Option (List A) → List ℕ
    → Type 0
NoneOrMany P None xs text = (None ≡ xs) × (text ≡ [])
NoneOrMany {A = A} P (Some n) xs text = (ys : List A) × (Some ys ≡ xs) × SoMany P n ys text

none_or_many : {A : Type 0} {P : A → List ℕ → Type 0} {R : Reader A} → Agrees P R
    → (o : Option ℕ) → Agrees (NoneOrMany P o) (none_or_elements R o)
none_or_many g None = given None
none_or_many g (Some n) = mapped (so_many g n) (λ ys. Some ys)

nullable_array_to : {A : Type 0} (version : Version) (since : ℕ) (P : A → List ℕ → Type 0)
    (xs : Option (List A)) (t : List ℕ) (o : Option ℕ)
    → (NullLength since version o ⊳ NoneOrMany P o xs) t
    → SpellsNullableArray version since P xs t
nullable_array_to {A = A} version since P xs t None j =
    subst (λ (ys : Option (List A)). SpellsNullableArray version since P ys t) j.second.0 (
      j.first.0,
      none_front version w32 t (record {
        front = j.front;
        back = j.back;
        first = j.first.1;
        second = j.second.1;
        parts = j.parts;
      }),
    )
nullable_array_to {A = A} version since P xs t (Some n) j =
    subst (λ (ys : Option (List A)). SpellsNullableArray version since P ys t) j.second.1
    (array_to version P j.second.0 t n (record {
      front = j.front;
      back = j.back;
      first = j.first;
      second = j.second.2;
      parts = j.parts;
    }))

nullable_array_from : {A : Type 0} (version : Version) (since : ℕ) (P : A → List ℕ → Type 0)
    (xs : Option (List A)) (t : List ℕ) → SpellsNullableArray version since P xs t
    → (o : Option ℕ) × (NullLength since version o ⊳ NoneOrMany P o xs) t
nullable_array_from version since P None t h = (
  None,
  record {
    front = t;
    back = [];
    first = h;
    second = (refl, refl);
    parts = sym (append-nil t);
  },
)
nullable_array_from version since P (Some xs) t j = (
  Some (length xs),
  record {
    front = j.front;
    back = j.back;
    first = j.first;
    second = (xs, refl, (refl, j.second));
    parts = j.parts;
  },
)

pub nullable_array_agrees : {A : Type 0} {P : A → List ℕ → Type 0} {R : Reader A}
    (version : Version) (since : ℕ) → Agrees P R
    → Agrees (SpellsNullableArray version since P) (nullable_array_at version since R)
unfolding nullable_array_at
nullable_array_agrees {P = P} version since g =
    same (after (null_length_agrees since version) (none_or_many g))
    (λ xs t s. nullable_array_to version since P xs t s.0 s.1)
    (λ xs t h. nullable_array_from version since P xs t h)

------ tagged fields

abbrev Tag : Unit {0} → List ℕ → Type 0
Tag u text = (tagged : Tagged) × SpellsTagged tagged text

tag_to : (u : Unit {0}) (t : List ℕ) (tag : ℕ)
    → (SpellsUnsigned tag ⊳ (λ b. (size : ℕ) × (SpellsUnsigned size
    ⊳ (λ c. (bytes : List ℕ) × (tt {0} ≡ u) × Long size bytes c)) b)) t
    → Tag u t
tag_to u t tag j =
    let s = j.second in
    let k = s.1 in
    let b = k.second in (
      record { tag = tag; bytes = b.0 },
      record {
        front = j.front;
        back = j.back;
        first = j.first;
        second = record {
          front = k.front;
          back = k.back;
          first = subst (λ (n : ℕ). SpellsUnsigned n k.front) (sym b.2.0) k.first;
          second = b.2.1;
          parts = k.parts;
        };
        parts = j.parts;
      },
    )

tag_agrees : Agrees Tag tag_at
unfolding tag_at
tag_agrees =
    same (after unsigned_agrees (λ tag. after unsigned_agrees (λ size.
    mapped (taken_agrees size) (λ bytes. tt {0}))))
    (λ u t s. tag_to u t s.0 s.1)
    (λ u t s.
    let j = s.1 in
    let k = j.second in (
      s.0.tag,
      record {
        front = j.front;
        back = j.back;
        first = j.first;
        second = (
          length s.0.bytes,
          record {
            front = k.front;
            back = k.back;
            first = k.first;
            second = (s.0.bytes, refl, (refl, k.second));
            parts = k.parts;
          },
        );
        parts = j.parts;
      },
    ))

tags_of : (us : List (Unit {0})) (t : List ℕ) → Each Tag us t
    → (tags : List Tagged) × (length tags ≡ length us) × Each SpellsTagged tags t
tags_of [] t h = ([], refl, h)
tags_of (u ∷ us) t j =
    let r = tags_of us j.back j.second in (
      j.first.0 ∷ r.0,
      ap suc r.1,
      record {
        front = j.front;
        back = j.back;
        first = j.first.1;
        second = r.2;
        parts = j.parts;
      },
    )

tags_as : (tags : List Tagged) (t : List ℕ) → Each SpellsTagged tags t
    → (us : List (Unit {0})) × (length us ≡ length tags) × Each Tag us t
tags_as [] t h = ([], refl, h)
tags_as (tagged ∷ tags) t j =
    let r = tags_as tags j.back j.second in (
      tt ∷ r.0,
      ap suc r.1,
      record {
        front = j.front;
        back = j.back;
        first = (tagged, j.first);
        second = r.2;
        parts = j.parts;
      },
    )

tags_agrees : Agrees (λ (u : Unit {0}) text. SpellsTags text) tags_at
unfolding tags_at
tags_agrees =
    same (after unsigned_agrees (λ count. mapped (so_many tag_agrees count) (λ us. tt {0})))
    (λ u t s.
    let j = s.1 in
    let m = j.second.2 in
    let r = tags_of j.second.0 j.back m.1 in (
      r.0,
      record {
        front = j.front;
        back = j.back;
        first = subst (λ (n : ℕ). SpellsUnsigned n j.front) (sym (r.1 ∙ m.0)) j.first;
        second = r.2;
        parts = j.parts;
      },
    ))
    (λ u t s.
    let j = s.1 in
    let r = tags_as s.0 j.back j.second in (
      length s.0,
      record {
        front = j.front;
        back = j.back;
        first = j.first;
        second = (r.0, refl, (r.1, r.2));
        parts = j.parts;
      },
    ))

nothing_left : Agrees (λ (u : Unit {0}) text. Exactly [] text) (gives tt)
nothing_left = same (given (tt {0})) (λ u t h. h.1) (λ u t h. (refl, h))

pub end_agrees : (version : Version) → Agrees (λ u text. SpellsEnd version text) (end_at version)
unfolding end_at
end_agrees version = either version.flexible tags_agrees nothing_left

------ structs

absent_agrees : {A : Type 0} (other : A) → Agrees (Absent other) (gives other)
absent_agrees other = same (given other) (λ x t h. (sym h.0, h.1)) (λ x t h. (sym h.0, h.1))

in_agrees : {A : Type 0} {P : A → List ℕ → Type 0} {R : Reader A} (versions : Versions)
    (version : Version) (other : A) → Agrees P R
    → Agrees (SpellsIn versions version P other) (where_in versions version R other)
in_agrees schema.Always version other g = g
in_agrees (schema.Since first) version other g =
    either (ltb version.number first) (absent_agrees other) g
in_agrees (schema.Only one) version other g =
    either (eqb version.number one) g (absent_agrees other)

pub fields_agree : (version : Version) (fields : Fields)
    → Agrees (Spells version fields) (fields_at version fields)
fields_agree version schema.End = end_agrees version
fields_agree version (schema.One p) = primitive_agrees version p
fields_agree version (schema.Field versions p other rest) =
    pair (in_agrees versions version other (primitive_agrees version p)) (fields_agree version rest)
fields_agree version (schema.Array versions element rest) =
    pair (in_agrees versions version [] (array_agrees version (fields_agree version element)))
    (fields_agree version rest)
fields_agree version (schema.NullableArray since element rest) =
    pair (nullable_array_agrees version since (fields_agree version element))
    (fields_agree version rest)

pub one_value : (version : Version) (fields : Fields) (text : List ℕ) (v w : Values fields)
    → Spells version fields v text → Spells version fields w text → v ≡ w
one_value version fields text v w h k =
    let g = fields_agree version fields in
    let e : (v, []) ≡ (w, []) =
    ok_is (v, []) (w, []) (sym (g.again v text [] h) ∙ g.again w text [] k) in
    ap (λ (x : Values fields × List ℕ). x.0) e
