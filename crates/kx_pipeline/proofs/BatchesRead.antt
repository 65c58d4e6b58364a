-- What a batch that a client makes in a transaction reads as: a data batch of the id and epoch that
-- it was made with, which begins with the first sequence that it was made with, and has the records
-- of its values.
use Rattle.std.proofs.Common.{◌≡◌, ◌^◌, ◌<◌, ◌≤◌, ◌+◌, ◌/◌, ◌%◌, ◌==◌, ℕ, pos, negsuc, true}
use Rattle.std.proofs.Common.{cond, drop, length, map, List, [], ◌∷◌, Some, None, is_some, refl}
use Rattle.std.proofs.Common.{sym, ap, ◌∙◌, arith, lit<, ⊎_elim}
use Rattle.std.specs.Int.{cast_unsigned, to_be_bytes, w16, w32}
use Rattle.std.specs.List.{enumerate_from}
use Rattle.std.proofs.lemmas.Bool.{cases_lt}
use Rattle.std.proofs.lemmas.List.{length-append}
use Rattle.kx_varint.specs.BigEndian.{place_value, signed_at, signed_text, unsigned_text}
use Rattle.kx_varint.specs.Text.{Several, or_none}
use Rattle.kx_varint.proofs.FixedWidth.{wide32}
use Rattle.kx_message.specs.declared.message.Held.{Held}
use Rattle.kx_message.specs.declared.message.Message.{Message}
use Rattle.kx_message.specs.declared.message.Message.TheVariants as msg
use Rattle.kx_message.specs.declared.requests.Produce.{Produce}
use Rattle.kx_batch.specs.Batch.{Batch, batch_limit, batch_of, count_of}
use Rattle.kx_batch.specs.Build.{fields_text, pushed, record_text, records_text, whole_text}
use Rattle.kx_batch.specs.Build.{within_limit}
use Rattle.kx_batch.specs.Marker.{end_marker_of, only_marker}
use Rattle.kx_batch.specs.Record.{IsPlaced, Record, records_in}
use Rattle.kx_batch.proofs.Fields.{records_again}
use Rattle.kx_batch.proofs.Making.{RecordFits, body_short, record_spells, zero_fits}
use Rattle.kx_client.proofs.Sizes.{length-value_records, record_at, record_long, within}
use Rattle.kx_model.specs.Client.{client_batch, value_records}
use Rattle.kx_model.specs.Log.{Data, Sequenced, data_of, entry_by, entry_in}
use Rattle.kx_headline.proofs.ClientRequests.{HeldFits, IsMade}
use Rattle.kx_headline.proofs.Loads.{carries_reads, same_request}
use Rattle.kx_headline.proofs.SentBatches.{reads_epoch, reads_id, reads_sequence}

------ numbers of its text

-- it is a batch of a transaction, and no control batch
attributes_read : (held : Held) (first : ℕ) (records : List Record)
    → signed_at w16 21 (client_batch true held first records) ≡ pos 16
unfolding fields_text signed_text unsigned_text whole_text
attributes_read held first records = refl

-- one sequence too many comes round as a negative number
comes_round : (held : Held) (records : List Record)
    → signed_at w32 53 (client_batch true held (2 ^ 31) records) ≡ negsuc 2147483647
unfolding fields_text signed_text unsigned_text whole_text
comes_round held records = refl

------ its records

-- the records of values, from this place on
abbrev values_from : ℕ → List (List ℕ) → List Record
values_from n values = map (λ v. pushed v.0 None (Some v.1) []) (enumerate_from n values)

-- each value takes a byte at least
many_bytes : (n : ℕ) (values : List (List ℕ))
    → length values ≤ length (records_text (values_from n values))
many_bytes n [] = omega arith
many_bytes n (value ∷ values) =
    omega (
      arith,
      many_bytes (n + 1) values,
      record_long n value,
      length-append (record_text (record_at n value)) (records_text (values_from (n + 1) values)),
    )

record_fits : (n : ℕ) (value : List ℕ) → n < 2 ^ 31 → length value ≤ batch_limit
    → RecordFits (record_at n value)
record_fits n value low short = record {
  attributes = record { sfits = lit< tt };
  timestamp = zero_fits.1;
  offset = record { sfits = low };
  key = omega arith;
  value = short;
  headers = refl;
  count = lit< tt;
  small = body_short n None (Some value) [] (omega (arith, short));
}

spell : (n : ℕ) (values : List (List ℕ))
    → n + length (records_text (values_from n values)) ≤ batch_limit
    → Several IsPlaced n (values_from n values) (records_text (values_from n values))
spell n [] room = refl
spell n (value ∷ values) room =
    let long = record_long n value in
    let parts = length-append (record_text (record_at n value))
    (records_text (values_from (n + 1) values)) in
    record {
      front = record_text (record_at n value);
      back = records_text (values_from (n + 1) values);
      first = record_spells n (record_at n value) refl
          (record_fits n value (omega (arith, room)) (omega (arith, room, long, parts)));
      second = spell (n + 1) values (omega (arith, room, long, parts));
      parts = refl;
    }

behind_fields : (held : Held) (first : ℕ) (records : List Record)
    → drop 61 (client_batch true held first records) ≡ records_text records
unfolding fields_text signed_text unsigned_text whole_text
behind_fields held first records = refl

count_read : (held : Held) (first : ℕ) (records : List Record)
    → count_of (client_batch true held first records)
    ≡ place_value (to_be_bytes w32 (length records))
unfolding fields_text signed_text unsigned_text whole_text
count_read held first records = refl

records_read : (held : Held) (first : ℕ) (values : List (List ℕ))
    → is_some (within_limit (value_records values)) ≡ true
    → (batch_of (client_batch true held first (value_records values))).records
    ≡ value_records values
records_read held first values fit =
    let records = value_records values in
    let text = client_batch true held first records in
    let room = within values fit in
    let few : length records < 2 ^ 32 =
    omega (arith, room, many_bytes 0 values, length-value_records values) in
    let count : count_of text ≡ length records =
    count_read held first records ∙ wide32.again (length records) few in
    ap (λ n. or_none (records_in n (drop 61 text))) count
    ∙ ap (λ t. or_none (records_in (length records) t)) (behind_fields held first records)
    ∙ ap or_none (records_again records (records_text records)
    (spell 0 values (omega (arith, room))))

------ what it is to the rules

-- a data batch of these numbers
abbrev pub data_with : Held → ℕ → List Record → Sequenced
data_with held first records = record {
  id = held.id;
  epoch = held.epoch;
  first = first;
  transactional = true;
  records = records;
}

as_data : (v : Batch) (held : Held) (first : ℕ) → v.attributes ≡ pos 16
    → v.producer_id ≡ pos held.id → v.producer_epoch ≡ pos held.epoch
    → v.base_sequence ≡ pos first → entry_in v ≡ Data (data_with held first v.records)
unfolding entry_in
as_data v held first a i e f =
    let none : end_marker_of v ≡ None =
    ap (λ z. cond (cast_unsigned w16 z / 32 % 2 == 1) (only_marker v.records) None) a in
    ap (λ o. entry_by o v) none
    ∙ ap (λ z. data_of z v.producer_epoch v.base_sequence v) i
    ∙ ap (λ z. data_of (pos held.id) z v.base_sequence v) e
    ∙ ap (λ z. data_of (pos held.id) (pos held.epoch) z v) f
    ∙ ap (λ z. Data (record (data_with held first v.records) {
      transactional = cast_unsigned w16 z / 16 % 2 == 1;
    })) a

module _ (held : Held) (fits : HeldFits held) (first : ℕ) (records : List Record) where
  abbrev text : List ℕ
  text = client_batch true held first records

  pub reads_as_data : first < 2 ^ 31
      → entry_in (batch_of text) ≡ Data (data_with held first (batch_of text).records)
  reads_as_data low =
      as_data (batch_of text) held first (attributes_read held first records)
      (reads_id _ (record { sfits = omega (arith, fits.id) }))
      (reads_epoch _ (record { sfits = omega (arith, fits.epoch) }))
      (reads_sequence _ (record { sfits = omega (arith, low) }))

  -- a batch that was sent begins with a sequence that there is
  pub sent_low : (sent : List Message) (request : Produce)
      → IsMade sent (msg.Produce request) → request.batch ≡ text → first ≤ 2 ^ 31 → first < 2 ^ 31
  sent_low sent request made is top = ⊎_elim (λ low. low) at_top (cases_lt first (2 ^ 31))
    where
      at_top : 2 ^ 31 ≤ first → first < 2 ^ 31
      at_top high =
          let x = carries_reads (msg.Produce request) made.load made.carries in
          let same = same_request x.request _ (sym x.is ∙ refl) in
          let one : first ≡ 2 ^ 31 = omega (arith, high, top) in
          let here : request.batch ≡ client_batch true held (2 ^ 31) records =
          is ∙ ap (λ n. client_batch true held n records) one in
          let no : negsuc 2147483647 ≡ pos made.load.first =
          sym (comes_round held records) ∙ ap (signed_at w32 53) (sym here)
          ∙ ap (λ r. (batch_of r.text).base_sequence) (sym same) ∙ x.first in
          absurd cc

-- a batch of values within the limit reads as its values' records
pub values_read : (held : Held) → HeldFits held → (first : ℕ) → first < 2 ^ 31
    → (values : List (List ℕ)) → is_some (within_limit (value_records values)) ≡ true
    → entry_in (batch_of (client_batch true held first (value_records values)))
    ≡ Data (data_with held first (value_records values))
values_read held fits first low values fit =
    reads_as_data held fits first (value_records values) low
    ∙ ap (λ r. Data (data_with held first r)) (records_read held first values fit)
