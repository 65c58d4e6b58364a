-- What the texts that the groups' tables append are to the rules, at whatever offset a log stores
-- them: no rule reads a base offset.
use Rattle.std.proofs.Common.{◌≡◌, ◌+◌, ℕ, ℤ, pos, true, List, [], ◌∷◌, ◌++◌, map, take, drop}
use Rattle.std.proofs.Common.{sym, ap, ◌∙◌, lit<}
use Rattle.std.specs.Int.{w16, w32, w64, cast_unsigned}
use Rattle.std.specs.List.{AllByRecursion, enumerate_from}
use Rattle.std.proofs.lemmas.List.{drop-drop, drop_at}
use Rattle.kx_varint.specs.BigEndian.{signed_at, signed_text, unsigned_at}
use Rattle.kx_varint.specs.Text.{IsBytes, or_none}
use Rattle.kx_varint.proofs.FixedWidth.{wide64}
use Rattle.kx_message.specs.Message.{IsOffset}
use Rattle.kx_message.specs.Ranges.{IsName}
use Rattle.kx_message.specs.declared.message.Held.{Held}
use Rattle.kx_message.specs.declared.payload.PartitionOffset.{PartitionOffset}
use Rattle.kx_batch.specs.Batch.{Batch, SpellsBatch, based, batch_of, count_of, with_base}
use Rattle.kx_batch.specs.Record.{records_in}
use Rattle.kx_model.specs.Groups.{Fact, Offset, fact_of, membership_text, offset_records}
use Rattle.kx_model.specs.Groups.{offsets_batch, record_of}
use Rattle.kx_model.specs.Log.{Control, Data, Marker, MarkerFits, Plain, Sequenced, Stored}
use Rattle.kx_model.specs.Log.{entry_in, entry_of}
use Rattle.kx_model.specs.Produce.{stored_at, text_of}
use Rattle.kx_model.proofs.Logs.{entry_in-based, stored_text}
use Rattle.kx_model.proofs.Markers.{stored_marker}
use Rattle.kx_offsets.specs.Facts.{CommitFits, FactFits, commit_batch, membership_of}
use Rattle.kx_offsets.proofs.Commits.{commit_built, commit_entry}
use Rattle.kx_offsets.proofs.Memberships.{membership_built, membership_entry}
use Rattle.kx_offsets.proofs.Saying.{said_again}
use Rattle.kx_group.specs.Log.{is_offset}

------ a base offset

behind : (z : ℤ) (text : List ℕ) → drop 8 (with_base z text)
    ≡ take 4 (drop 8 text) ++ (signed_text w32 (pos 0) ++ drop 16 text)
unfolding with_base signed_text
behind z text =
    drop_at (signed_text w64 z) (take 4 (drop 8 text) ++ (signed_text w32 (pos 0) ++ drop 16 text))
    8 (wide64.size (cast_unsigned w64 z))

module _ (z other : ℤ) (text : List ℕ) where
  same_behind : (k : ℕ) → drop (8 + k) (with_base z text) ≡ drop (8 + k) (with_base other text)
  same_behind k =
      sym (drop-drop k 8 (with_base z text)) ∙ ap (drop k) (behind z text ∙ sym (behind other text))
      ∙ drop-drop k 8 (with_base other text)

  same_but_for_base : based (pos 0) (batch_of (with_base z text))
      ≡ based (pos 0) (batch_of (with_base other text))
  same_but_for_base =
      let count : count_of (with_base z text) ≡ count_of (with_base other text) =
      ap (unsigned_at w32 0) (same_behind 49) in
      let records : or_none (records_in (count_of (with_base z text)) (drop 61 (with_base z text)))
      ≡ or_none (records_in (count_of (with_base other text)) (drop 61 (with_base other text))) =
      ap (λ n. or_none (records_in n (drop 61 (with_base z text)))) count
      ∙ ap (λ t. or_none (records_in (count_of (with_base other text)) t)) (same_behind 53) in
      let attributes = ap (signed_at w16 0) (same_behind 13) in
      let base_time = ap (signed_at w64 0) (same_behind 19) in
      let max_time = ap (signed_at w64 0) (same_behind 27) in
      let id = ap (signed_at w64 0) (same_behind 35) in
      let epoch = ap (signed_at w16 0) (same_behind 43) in
      let sequence = ap (signed_at w32 0) (same_behind 45) in
      λ j. record {
        base_offset = pos 0;
        leader_epoch = pos 0;
        attributes = attributes j;
        base_timestamp = base_time j;
        max_timestamp = max_time j;
        producer_id = id j;
        producer_epoch = epoch j;
        base_sequence = sequence j;
        records = records j;
      }

  same_entry : entry_in (batch_of (with_base z text)) ≡ entry_in (batch_of (with_base other text))
  same_entry =
      sym (entry_in-based (pos 0) (batch_of (with_base z text))) ∙ ap entry_in same_but_for_base
      ∙ entry_in-based (pos 0) (batch_of (with_base other text))

-- a text that is read as it was built is stored as what it reads as
stored_as : (offset : ℕ) (v : Batch) (text : List ℕ) → IsBytes text → SpellsBatch v text
    → batch_of text ≡ v → entry_of (stored_at offset text) ≡ entry_in (batch_of text)
stored_as offset v text bytes spells read =
    same_entry (pos offset) (pos 0) text
    ∙ ap (λ (s : Stored). entry_of s)
    (stored_text 0 v text bytes (record { sfits = lit< tt }) spells)
    ∙ entry_in-based (pos 0) v ∙ ap entry_in (sym read)

------ the texts

pub stored_change : (offset : ℕ) (fact : Fact) → FactFits fact
    → entry_of (stored_at offset (membership_text fact)) ≡ Plain (record_of 0 fact ∷ [])
stored_change offset fact fits =
    let b = membership_built fact fits in
    stored_as offset (membership_of fact) (membership_text fact) b.bytes b.spells b.read
    ∙ membership_entry fact fits

pub stored_end : (offset : ℕ) (marker : Marker) → MarkerFits marker
    → entry_of (stored_at offset (text_of marker)) ≡ Control marker
stored_end offset marker fits =
    same_entry (pos offset) (pos 0) (text_of marker)
    ∙ stored_marker 0 marker fits (record { sfits = lit< tt })

each_says : (n : ℕ) (group : List ℕ) (offsets : List PartitionOffset) → IsName group
    → AllByRecursion IsOffset offsets
    → AllByRecursion (λ r. is_offset (fact_of r) ≡ true)
    (map (λ o. record_of o.0 (Offset group o.1.partition o.1.offset)) (enumerate_from n offsets))
each_says n group [] name h = tt
each_says n group (o ∷ offsets) name h = (
  ap is_offset
      (said_again n (Offset group o.partition o.offset) (name, h.0.partition, h.0.offset)),
  each_says (n + 1) group offsets name h.1,
)

module _ (group : List ℕ) (held : Held) (first : ℕ) (offsets : List PartitionOffset) where
  abbrev pub commit_of : Sequenced
  commit_of = record {
    id = held.id;
    epoch = held.epoch;
    first = first;
    transactional = true;
    records = offset_records group offsets;
  }

  module _ (fits : CommitFits group held (pos first) offsets) where
    pub stored_commit : (offset : ℕ)
        → entry_of (stored_at offset (offsets_batch group held (pos first) offsets))
        ≡ Data commit_of
    stored_commit offset =
        let b = commit_built group held (pos first) offsets fits in
        stored_as offset (commit_batch group held (pos first) offsets)
        (offsets_batch group held (pos first) offsets) b.bytes b.spells b.read
        ∙ commit_entry group held first offsets fits

    pub commit_says_offsets : AllByRecursion (λ r. is_offset (fact_of r) ≡ true) commit_of.records
    commit_says_offsets = each_says 0 group offsets fits.name fits.said.each
