-- What the batches of a partition's log are to the rules, by their producer's id and by what they
-- say of a transaction's end.
use Rattle.std.proofs.Common.{◌≡◌, ⊎_elim, ◌<ℤ◌, ℕ, ℤ, pos, negsuc, Bool, true, false, not}
use Rattle.std.proofs.Common.{◌&&◌, cond, List, Option, Some, None, refl, sym, ap, ◌∙◌, arith}
use Rattle.std.specs.Prelude.{int_le, ◌||◌}
use Rattle.std.specs.Ordering.{int_eq}
use Rattle.std.proofs.lemmas.Bool.{and_parts, or_cases}
use Rattle.std.proofs.lemmas.Int.{ints}
use Rattle.kx_batch.specs.Batch.{Batch, is_control, is_transactional}
use Rattle.kx_batch.specs.Marker.{end_marker_of, only_marker}
use Rattle.kx_laws.specs.Grown.{IsTaken, TakesBatch, TakesMarker}
use Rattle.kx_laws.proofs.StoredTexts.{else_next}
use Rattle.kx_message.specs.declared.code.ErrorCode.TheVariants.{InvalidRecord}
use Rattle.kx_message.specs.declared.outcome.Outcome.{Outcome}
use Rattle.kx_model.specs.Log.{Control, Data, Marker, Plain, Sequenced, Stored}
use Rattle.kx_model.specs.Log.{control_of, data_of, entries, entry_by, entry_in, entry_of}
use Rattle.kx_model.specs.Produce.{Appends, is_plain, is_sequenced}
use Rattle.kx_model.specs.Produce.{judge_entry, judge_marker}
use Rattle.kx_partition.proofs.MarkersRead.{id_is, marker_entry, says}
use Rattle.kx_group.specs.Internal.Reading.{IsDataOf, IsPlain}

natural : (z : ℤ) → int_le (pos 0) z ≡ true → (n : ℕ) × (z ≡ pos n)
natural (pos n) e = (n, refl)
natural (negsuc n) e = absurd cc

no_control : (control : Bool) (said : Option (Outcome × ℤ)) → not control ≡ true
    → cond control said None ≡ None
no_control true said e = absurd cc
no_control false said e = refl

none_or_some : {A : Type 0} (o : Option A) (x : A) → o ≡ None → o ≡ Some x → ⊥
none_or_some None x none some = cc
none_or_some (Some y) x none some = cc

-- a batch of no producer is plain
pub plain_entry : (stored : Stored) → stored.batch.producer_id <ℤ pos 0 → IsPlain stored
unfolding entry_in
plain_entry stored below = by (end_marker_of b) b.producer_id refl below
  where
    b : Batch
    b = stored.batch

    by : (said : Option (Outcome × ℤ)) (z : ℤ) → b.producer_id ≡ z → z <ℤ pos 0
        → entry_by said b ≡ Plain b.records
    by None (negsuc n) e below =
        ap (λ z. data_of z b.producer_epoch b.base_sequence b) e
    by (Some x) (negsuc n) e below = ap (λ z. control_of z b.producer_epoch x b) e
    by said (pos n) e below = absurd (grind (arith, ints))

-- a batch of records that comes next ends no transaction
no_end : (b : Batch) → (is_plain b || is_sequenced b) ≡ true → end_marker_of b ≡ None
no_end b kind =
    no_control (is_control b) (only_marker b.records)
    (⊎_elim plain sequenced (or_cases (is_plain b) (is_sequenced b) kind))
  where
    plain : is_plain b ≡ true → not (is_control b) ≡ true
    plain h =
        (and_parts (int_eq b.producer_id (negsuc 0) && int_eq b.producer_epoch (negsuc 0)
        && int_eq b.base_sequence (negsuc 0) && not (is_transactional b)) (not (is_control b)) h).1

    sequenced : is_sequenced b ≡ true → not (is_control b) ≡ true
    sequenced h =
        (and_parts (int_le (pos 0) b.producer_id && int_le (pos 0) b.producer_epoch
        && int_le (pos 0) b.base_sequence) (not (is_control b)) h).1

pub not_plain : (b : Batch) (id : ℕ) → b.producer_id ≡ pos id → is_plain b ≡ true → ⊥
not_plain b id at plain =
    let numbers = int_eq b.producer_id (negsuc 0) && int_eq b.producer_epoch (negsuc 0) in
    let bits = and_parts (numbers && int_eq b.base_sequence (negsuc 0) && not (is_transactional b))
    (not (is_control b)) plain in
    let four = and_parts (numbers && int_eq b.base_sequence (negsuc 0)) (not (is_transactional b))
    bits.0 in
    let three = and_parts numbers (int_eq b.base_sequence (negsuc 0)) four.0 in
    let two = and_parts (int_eq b.producer_id (negsuc 0)) (int_eq b.producer_epoch (negsuc 0))
    three.0 in
    let h : int_eq (pos id) (negsuc 0) ≡ true =
    ap (λ z. int_eq z (negsuc 0)) (sym at) ∙ two.0 in
    cc

-- of a producer with an id, an epoch and a sequence
record IsOf (b : Batch) (id : ℕ) : Type 0 where
  batch : Sequenced
  entry : entry_in b ≡ Data batch
  id_is : batch.id ≡ id
  transactional : batch.transactional ≡ is_transactional b
  records : batch.records ≡ b.records

sequenced_is : (b : Batch) (id : ℕ) → b.producer_id ≡ pos id → is_sequenced b ≡ true → IsOf b id
unfolding entry_in
sequenced_is b id at sequenced =
    let three = int_le (pos 0) b.producer_id && int_le (pos 0) b.producer_epoch in
    let bits = and_parts (three && int_le (pos 0) b.base_sequence) (not (is_control b)) sequenced in
    let last = and_parts three (int_le (pos 0) b.base_sequence) bits.0 in
    let two = and_parts (int_le (pos 0) b.producer_id) (int_le (pos 0) b.producer_epoch) last.0 in
    let epoch = natural b.producer_epoch two.1 in
    let first = natural b.base_sequence last.1 in
    record {
      batch = record {
        id = id;
        epoch = epoch.0;
        first = first.0;
        transactional = is_transactional b;
        records = b.records;
      };
      entry = ap (λ o. entry_by o b) (no_control (is_control b) (only_marker b.records) bits.1)
          ∙ ap (λ z. data_of z b.producer_epoch b.base_sequence b) at
          ∙ ap (λ z. data_of (pos id) z b.base_sequence b) epoch.1
          ∙ ap (λ z. data_of (pos id) (pos epoch.0) z b) first.1;
      id_is = refl;
      transactional = refl;
      records = refl;
    }

-- a batch of a producer with an id that the tables append, and that ends no transaction
pub taken_data : (log : List Stored) (stored : Stored) (id : ℕ)
    → IsTaken (entries log) stored.batch → end_marker_of stored.batch ≡ None
    → stored.batch.producer_id ≡ pos id → IsDataOf log id stored
taken_data log stored id (TakesBatch some next) none at =
    let b = stored.batch in
    let j = else_next (is_plain b || is_sequenced b) InvalidRecord
    (judge_entry (entries log) true (entry_in b)) next in
    let sequenced : is_sequenced b ≡ true =
    ⊎_elim (λ plain. absurd (not_plain b id at plain)) (λ h. h)
    (or_cases (is_plain b) (is_sequenced b) j.0) in
    let d = sequenced_is b id at sequenced in
    record {
      batch = d.batch;
      entry_is = d.entry;
      id_is = d.id_is;
      transactional_is = d.transactional;
      records_are = d.records;
      next = ap (judge_entry (entries log) true) (sym d.entry) ∙ j.1;
    }
taken_data log stored id (TakesMarker m fits is next) none at =
    absurd (none_or_some (end_marker_of stored.batch) (m.outcome, m.coordinator) none
    (says stored.batch m fits is))

-- a batch of a producer with an id that the tables append, and that ends a transaction
pub record IsEndOf (log : List Stored) (id : ℕ) (outcome : Outcome) (stored : Stored) : Type 0 where
  pub marker : Marker
  pub entry_is : entry_of stored ≡ Control marker
  pub id_is : marker.id ≡ id
  pub outcome_is : marker.outcome ≡ outcome
  pub next : judge_marker (entries log) marker ≡ Appends

said_outcome : (said other : Outcome × ℤ) → Some said ≡ Some other → said.0 ≡ other.0
said_outcome said other e =
    let h : said ≡ other = cc in ap (λ (s : Outcome × ℤ). s.0) h

pub taken_end : (log : List Stored) (stored : Stored) (id : ℕ) (outcome : Outcome) (epoch : ℤ)
    → IsTaken (entries log) stored.batch → end_marker_of stored.batch ≡ Some (outcome, epoch)
    → stored.batch.producer_id ≡ pos id → IsEndOf log id outcome stored
taken_end log stored id outcome epoch (TakesBatch some next) said at =
    let b = stored.batch in
    let j = else_next (is_plain b || is_sequenced b) InvalidRecord
    (judge_entry (entries log) true (entry_in b)) next in
    absurd (none_or_some (end_marker_of b) (outcome, epoch) (no_end b j.0) said)
taken_end log stored id outcome epoch (TakesMarker m fits is next) said at =
    let same = sym (says stored.batch m fits is) ∙ said in
    let ids : pos m.id ≡ pos id = sym (id_is stored.batch m fits is) ∙ at in
    record {
      marker = m;
      entry_is = marker_entry stored.batch m fits is;
      id_is = cc;
      outcome_is = said_outcome (m.outcome, m.coordinator) (outcome, epoch) same;
      next = next;
    }
