-- Values whose plain batch is within its limit: its text is bytes, and spells the batch.
use Rattle.std.proofs.Common.{◌≡◌, ◌∙◌, ◌<◌, ◌≤◌, ◌+◌, ◌^◌, ◌++◌, ◌∷◌, [], ℕ, zero, suc, ℤ, pos, negsuc}
use Rattle.std.proofs.Common.{List, Option, Some, None, length, refl, sym, ap, subst, arith, lit<}
use Rattle.std.proofs.Common.{lit≤, inl, inr, is_some, map, true, true≢false}
use Rattle.std.specs.List.{enumerate_from}
use Rattle.std.specs.Prelude.{All}
use Rattle.std.specs.Int.{w8, w32, w64}
use Rattle.std.specs.Int.RustNames.{FitsSigned}
use Rattle.std.proofs.lemmas.Bool.{cases_lt}
use Rattle.std.proofs.lemmas.List.Elements.{All-head, All-tail}
use Rattle.kx_batch.proofs.Making.{FieldsFit, body_short, record_long, spells_written, zero_fits}
use Rattle.kx_batch.proofs.Making.{passes as passes_over, pushes as holds_more}
use Rattle.kx_batch.specs.Batch.{Batch, SpellsBatch, batch_limit}
use Rattle.kx_batch.specs.Build.{Holds, body_text, bytes_len, fields_text}
use Rattle.kx_batch.specs.Build.{pushed, record_text, records_text, weights, whole_text}
use Rattle.kx_batch.specs.Build.{with_pushed, within_limit}
use Rattle.kx_batch.specs.Crc.{crc32c_of}
use Rattle.kx_batch.specs.Record.{AreRecords, Record, records_in}
use Rattle.kx_broker.specs.Serving.{plain_batch}
use Rattle.kx_broker.proofs.Building.{limited, pushes, pushes-all, pushes-none}
use Rattle.kx_model.specs.Client.{value_records}
use Rattle.kx_model.specs.Step.{plain_text}
use Rattle.kx_offsets.proofs.OneRecord.{Bytes, join, signed, unsigned}
use Rattle.kx_varint.specs.Text.{IsBytes, many}
use Rattle.kx_varint.specs.Varint.{IsGroups, shortest_text, varint}
use Rattle.kx_varint.proofs.Writing.{shortest, varint_fits}

------ texts of bytes

one_byte : (n : ℕ) → n < 256 → IsBytes (n ∷ [])
one_byte n lt zero = lt
one_byte n lt (suc i) = lit< tt

more_bytes : (n : ℕ) (bytes : List ℕ) → n < 256 → IsBytes bytes → IsBytes (n ∷ bytes)
more_bytes n bytes lt h zero = lt
more_bytes n bytes lt h (suc i) = h i

groups_are_bytes : (text : List ℕ) → IsGroups text → IsBytes text
groups_are_bytes [] h = absurd h
groups_are_bytes (last ∷ []) h = one_byte last (omega arith)
groups_are_bytes (byte ∷ next ∷ bytes) h =
    more_bytes byte (next ∷ bytes) h.1 (groups_are_bytes (next ∷ bytes) h.2)

varint_is_bytes : (z : ℤ) → FitsSigned w32 z → Bytes (shortest_text z)
varint_is_bytes z fits = record {
  are = groups_are_bytes (shortest_text z)
      (shortest varint z (lit< tt) (lit< tt) (lit≤ tt) (varint_fits z fits)).spells.groups;
}

fields_are_bytes : (v : Batch) (count : ℕ) → Bytes (fields_text v count)
unfolding fields_text
fields_are_bytes v count = search (join, signed, unsigned) depth 12

whole_is_bytes : (offset leader : ℤ) (covered : List ℕ) → Bytes covered
    → Bytes (whole_text offset leader covered)
unfolding whole_text
whole_is_bytes offset leader covered h =
    join (join (join (join (join (signed w64 offset) (unsigned w32 (9 + length covered)))
    (signed w32 leader)) (unsigned w8 2)) (unsigned w32 (crc32c_of covered))) h

------ the record of a value

module _ (place : ℕ) (value : List ℕ) (lt : place < 2 ^ 31) (bytes : IsBytes value)
    (short : bytes_len None + bytes_len (Some value) + weights [] ≤ batch_limit) where
  abbrev it : Record
  it = pushed place None (Some value) []

  body_is_bytes : Bytes (body_text it)
  unfolding body_text
  body_is_bytes =
      let zero_byte : Bytes (0 ∷ []) = record { are = one_byte 0 (lit< tt) } in
      let none : Bytes [] = record { are = λ i. lit< tt } in
      let zero_is : Bytes (shortest_text (pos 0)) =
      varint_is_bytes (pos 0) (record { sfits = lit< tt }) in
      let null : Bytes (shortest_text (negsuc 0)) =
      varint_is_bytes (negsuc 0) (record { sfits = lit< tt }) in
      let at : Bytes (shortest_text (pos place)) =
      varint_is_bytes (pos place) (record { sfits = lt }) in
      let len : Bytes (shortest_text (pos (length value))) =
      varint_is_bytes (pos (length value)) (record { sfits = omega (arith, short) }) in
      let this : Bytes value = record { are = bytes } in
      join (join (join (join (join (join zero_byte zero_is) at) null) (join len this)) zero_is) none

  record_is_bytes : Bytes (record_text it)
  unfolding record_text
  record_is_bytes =
      join (varint_is_bytes (pos (length (body_text it)))
      (record { sfits = body_short place None (Some value) [] short })) body_is_bytes

------ records within the limit

-- the text of these records, which a builder holds
record Carries (all : List Record) : Type 0 where
  count : ℕ
  text : List ℕ
  holds : Holds count text
  same : holds.records ≡ all
  bytes : Bytes text

some_all : (records all : List Record) → Some records ≡ Some all → records ≡ all
some_all records all e = cc

none_all : (all : List Record) → None ≡ Some all → ⊥
none_all all e = cc

carries : (values : List (List ℕ)) (count : ℕ) (text : List ℕ) (h : Holds count text)
    (all : List Record) → Bytes text → All IsBytes values
    → pushes (Some h.records) values ≡ Some all → Carries all
carries [] count text h all bytes each e = record {
  count = count;
  text = text;
  holds = h;
  same = some_all h.records all e;
  bytes = bytes;
}
carries (value ∷ values) count text h all bytes each e =
    elim (cases_lt batch_limit (bytes_len None + bytes_len (Some value) + weights [])) [
      | inl long ↦ absurd (never (passes_over count text None (Some value) [] h
          (omega (arith, long, record_long count None (Some value) []))))
      | inr short ↦
          elim (cases_lt batch_limit (61 + (length text
          + length (record_text (pushed count None (Some value) []))))) [
            | inl over ↦ absurd (never (passes_over count text None (Some value) [] h over))
            | inr room ↦
                let q = holds_more count text None (Some value) [] h short room in
                let next : with_pushed (Some h.records) None (Some value) []
                ≡ Some q.0.records = read ∙ q.1 ∙ q.0.read in
                carries values (count + 1)
                (text ++ record_text (pushed count None (Some value) [])) q.0 all
                (join bytes (record_is_bytes count value
                (omega (arith, h.few, h.room, h.count_is))
                (All-head IsBytes value values each) short))
                (All-tail IsBytes value values each)
                (ap (λ o. pushes o values) (sym next) ∙ e)
          ]
    ]
  where
    read : with_pushed (Some h.records) None (Some value) []
        ≡ with_pushed (records_in count text) None (Some value) []
    read = ap (λ o. with_pushed o None (Some value) []) (sym h.read)

    never : with_pushed (records_in count text) None (Some value) [] ≡ None → ⊥
    never none =
        none_all all
        (sym (pushes-none values) ∙ ap (λ o. pushes o values) (sym (read ∙ none)) ∙ e)

none_read : records_in 0 [] ≡ Some []
unfolding many
none_read = refl

abbrev start : Holds 0 []
start = record {
  records = [];
  read = none_read;
  are = refl;
  count_is = refl;
  text_is = refl;
  few = lit≤ tt;
  room = lit≤ tt;
}

some_of : (o : Option (List Record)) → is_some o ≡ true
    → (records : List Record) × (o ≡ Some records)
some_of None e = absurd (true≢false (sym e))
some_of (Some records) e = (records, refl)

pub length-value_records : (n : ℕ) (values : List (List ℕ))
    → length (map (λ v. pushed v.0 None (Some v.1) []) (enumerate_from n values)) ≡ length values
length-value_records n [] = refl
length-value_records n (value ∷ values) = omega (arith, length-value_records (n + 1) values)

-- a batch of values
pub record IsPlain (values : List (List ℕ)) : Type 0 where
  pub bytes : IsBytes (plain_text values)
  pub spells : SpellsBatch (plain_batch values) (plain_text values)

pub plain_built : (value : List ℕ) (more : List (List ℕ)) → All IsBytes (value ∷ more)
    → is_some (within_limit (value_records (value ∷ more))) ≡ true → IsPlain (value ∷ more)
plain_built value more each fits =
    let values = value ∷ more in
    let all = value_records values in
    let within = some_of (within_limit all) fits in
    let whole = (limited within.0 all within.1).1 in
    let c = carries values 0 [] start within.0 (record { are = λ i. lit< tt }) each
    (pushes-all values ∙ within.1) in
    let same : c.holds.records ≡ all = c.same ∙ whole in
    let v = plain_batch values in
    let text : c.text ≡ records_text all = c.holds.text_is ∙ ap records_text same in
    let are : AreRecords all c.text = subst (λ rs. AreRecords rs c.text) same c.holds.are in
    let fields : FieldsFit v = record {
      base_offset = zero_fits.1;
      leader_epoch = zero_fits.0;
      attributes = record { sfits = lit< tt };
      base_timestamp = zero_fits.1;
      max_timestamp = zero_fits.1;
      producer_id = record { sfits = lit< tt };
      producer_epoch = record { sfits = lit< tt };
      base_sequence = record { sfits = lit< tt };
      uncompressed = refl;
    } in
    let few : length all < 2 ^ 31 =
    omega (arith, ap length same, c.holds.few, c.holds.room) in
    let spells = spells_written v c.text fields are (omega arith) few c.holds.room in
    let bytes = whole_is_bytes (pos 0) (pos 0) (fields_text v (length all) ++ c.text)
    (join (fields_are_bytes v (length all)) c.bytes) in
    let is : whole_text (pos 0) (pos 0) (fields_text v (length all) ++ c.text)
    ≡ plain_text values =
    ap (λ (t : List ℕ). whole_text (pos 0) (pos 0) (fields_text v (length all) ++ t)) text in
    record {
      bytes = subst IsBytes is bytes.are;
      spells = subst (SpellsBatch v) is spells;
    }
