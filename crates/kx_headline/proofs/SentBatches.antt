-- What a batch that a client makes reads as, at the fixed places of its text: the id, the epoch and
-- the first sequence that it was made with.
use Rattle.std.proofs.Common.{◌≡◌, ◌+◌, ◌-◌, ℕ, ℤ, List, ◌++◌, length, drop}
use Rattle.std.proofs.Common.{refl, sym, ap, ◌∙◌, arith, append_assoc}
use Rattle.std.specs.Int.{Width, byte_len, cast_unsigned, w8, w16, w32, w64}
use Rattle.std.specs.Int.RustNames.{FitsSigned}
use Rattle.std.proofs.lemmas.List.{drop-drop, drop_at}
use Rattle.kx_varint.specs.BigEndian.{signed_at, signed_text, unsigned_text}
use Rattle.kx_varint.specs.Text.{Exactly}
use Rattle.kx_varint.proofs.FixedWidth.{IsWide, signed_back, wide16, wide32, wide64, wide8}
use Rattle.kx_batch.specs.Batch.{Batch, batch_of}
use Rattle.kx_batch.specs.Build.{batch_text, covered_text, fields_text, records_text}
use Rattle.kx_batch.specs.Build.{whole_text}
use Rattle.kx_batch.specs.Crc.{crc32c_of}

------ a text in parts

-- behind a part of so many bytes
past : (k n : ℕ) (text front back : List ℕ) → drop k text ≡ front ++ back → length front ≡ n
    → drop (k + n) text ≡ back
past k n text front back e size =
    sym (drop-drop n k text) ∙ ap (drop n) e ∙ drop_at front back n size

signed_size : (w : Width) → IsWide w → (z : ℤ) → length (signed_text w z) ≡ byte_len w
unfolding signed_text
signed_size w wide z = wide.size (cast_unsigned w z)

unsigned_size : (w : Width) → IsWide w → (n : ℕ) → length (unsigned_text w n) ≡ byte_len w
unfolding unsigned_text
unsigned_size w wide n = wide.size n

-- a number is read if it was written
there : (w : Width) → IsWide w → (z : ℤ) (k : ℕ) (text back : List ℕ) → FitsSigned w z
    → drop k text ≡ signed_text w z ++ back → signed_at w k text ≡ z
unfolding signed_text
there w wide z k text back fits e =
    ap (λ t. signed_at w 0 t) e
    ∙ (signed_back {Q = Exactly back} w wide z (signed_text w z ++ back) 0 (byte_len w)
    (omega arith) (omega arith) (record {
      front = signed_text w z;
      back = back;
      first = record { fits = fits; is = refl };
      second = refl;
      parts = refl;
    })).0

------ the parts of a batch

module _ (v : Batch) where
  abbrev text : List ℕ
  text = batch_text v

  abbrev count : ℕ
  count = length v.records

  abbrev after_checksum : List ℕ
  after_checksum = covered_text v

  whole_parts : text ≡ signed_text w64 v.base_offset
      ++ (unsigned_text w32 (9 + length after_checksum)
      ++ (signed_text w32 v.leader_epoch ++ (unsigned_text w8 2
      ++ (unsigned_text w32 (crc32c_of after_checksum) ++ after_checksum))))
  unfolding whole_text
  whole_parts = simp append_assoc

  field_parts : after_checksum ≡ signed_text w16 v.attributes
      ++ (unsigned_text w32 (count - 1) ++ (signed_text w64 v.base_timestamp
      ++ (signed_text w64 v.max_timestamp ++ (signed_text w64 v.producer_id
      ++ (signed_text w16 v.producer_epoch ++ (signed_text w32 v.base_sequence
      ++ (unsigned_text w32 count ++ records_text v.records)))))))
  unfolding fields_text
  field_parts = simp append_assoc

  behind_checksum : drop 21 text ≡ after_checksum
  behind_checksum =
      past 17 4 text _ _ (past 16 1 text _ _ (past 12 4 text _ _ (past 8 4 text _ _
      (past 0 8 text _ _ whole_parts (signed_size w64 wide64 v.base_offset))
      (unsigned_size w32 wide32 (9 + length after_checksum)))
      (signed_size w32 wide32 v.leader_epoch)) (unsigned_size w8 wide8 2))
      (unsigned_size w32 wide32 (crc32c_of after_checksum))

  behind_times : drop 43 text ≡ signed_text w64 v.producer_id
      ++ (signed_text w16 v.producer_epoch ++ (signed_text w32 v.base_sequence
      ++ (unsigned_text w32 count ++ records_text v.records)))
  behind_times =
      past 35 8 text _ _ (past 27 8 text _ _ (past 23 4 text _ _ (past 21 2 text _ _
      (behind_checksum ∙ field_parts) (signed_size w16 wide16 v.attributes))
      (unsigned_size w32 wide32 (count - 1))) (signed_size w64 wide64 v.base_timestamp))
      (signed_size w64 wide64 v.max_timestamp)

  behind_id : drop 51 text ≡ signed_text w16 v.producer_epoch
      ++ (signed_text w32 v.base_sequence ++ (unsigned_text w32 count ++ records_text v.records))
  behind_id = past 43 8 text _ _ behind_times (signed_size w64 wide64 v.producer_id)

  pub reads_id : FitsSigned w64 v.producer_id → (batch_of text).producer_id ≡ v.producer_id
  reads_id fits = there w64 wide64 v.producer_id 43 text _ fits behind_times

  pub reads_epoch : FitsSigned w16 v.producer_epoch
      → (batch_of text).producer_epoch ≡ v.producer_epoch
  reads_epoch fits = there w16 wide16 v.producer_epoch 51 text _ fits behind_id

  pub reads_sequence : FitsSigned w32 v.base_sequence
      → (batch_of text).base_sequence ≡ v.base_sequence
  reads_sequence fits =
      there w32 wide32 v.base_sequence 53 text _ fits
      (past 51 2 text _ _ behind_id (signed_size w16 wide16 v.producer_epoch))
