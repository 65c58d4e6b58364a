-- What a partition keeps of producers with an id (KIP-98, "Idempotent Producer Guarantees"), and
-- what a batch or a marker of one more changes.
use Rattle.std.specs.Prelude.{ℕ, ℤ, Bool, List, [], ◌∷◌, ◌++◌, Option, Some, None, nat_lt, max}
use Rattle.std.specs.Prelude.{if◌then◌else◌, fold, refl, unwrap_or}
use Rattle.std.specs.Ordering.{nat_cmp}
use Rattle.std.specs.FinMap as map
use Rattle.std.specs.Coded.{Coded, code_by, coded×, coded_bool, coded_list, coded_option, coded_ℕ}
use Rattle.std.specs.Coded.{coded_ℤ}
use Rattle.kx_model.specs.Producers.{last_of}
use Rattle.kx_producer.specs.declared.noted.RememberedBatch.{RememberedBatch}
use Rattle.kx_producer.specs.declared.noted.Noted.{Noted}
use Rattle.kx_producer.specs.declared.noted.Noted.TheVariants.{Data, Marker}

-- what is known of one: the greatest epoch of its batches and markers, the last five batches of
-- that epoch, and the epoch of the coordinator that sent its last marker
pub record Known : Type 0 where
  pub epoch : ℕ
  pub remembered : List RememberedBatch
  pub marked_by : Option ℤ

abbrev pub Table : Type 0
Table = map.FinMap nat_cmp Known

pub record Kept : Type 0 where
  -- what is known of each id that has come
  pub table : Table
  -- whether one more id can come without asking for memory
  pub has_room : Bool

abbrev pub known_of : Table → ℕ → Option Known
known_of table id = map.get table id

------ one more

-- of an id that comes with an epoch
abbrev pub fresh : ℕ → Known
fresh epoch = record { epoch = epoch; remembered = []; marked_by = None }

-- a newer epoch has no batches yet
abbrev pub raised : ℕ → Known → Known
raised epoch known = record {
  epoch = max known.epoch epoch;
  remembered = if nat_lt known.epoch epoch then [] else known.remembered;
  marked_by = known.marked_by;
}

-- a batch of an older epoch isn't remembered
abbrev pub with_batch : ℕ → RememberedBatch → Known → Known
with_batch epoch batch known = record (raised epoch known) {
  remembered =
      if nat_lt epoch known.epoch then known.remembered
      else last_of 5 ((raised epoch known).remembered ++ batch ∷ []);
}

abbrev pub with_marker : ℕ → ℤ → Known → Known
with_marker epoch coordinator known =
    record (raised epoch known) { marked_by = Some coordinator }

-- the coordinator of its last marker
abbrev pub marked_in : Option Known → Option ℤ
marked_in None = None
marked_in (Some known) = known.marked_by

abbrev pub known_or_fresh : Table → ℕ → ℕ → Known
known_or_fresh table id epoch = unwrap_or (known_of table id) (fresh epoch)

abbrev pub id_in : Noted → ℕ
id_in (Data id epoch batch) = id
id_in (Marker id epoch coordinator) = id

abbrev pub epoch_in : Noted → ℕ
epoch_in (Data id epoch batch) = epoch
epoch_in (Marker id epoch coordinator) = epoch

abbrev pub with_entry : Noted → Known → Known
with_entry (Data id epoch batch) known = with_batch epoch batch known
with_entry (Marker id epoch coordinator) known = with_marker epoch coordinator known

abbrev pub noted : Noted → Table → Table
noted entry table =
    map.insert table (id_in entry)
    (with_entry entry (known_or_fresh table (id_in entry) (epoch_in entry)))

-- in turn, from nothing known on
abbrev pub noted_all : List Noted → Table
noted_all entries = fold (λ table entry. noted entry table) map.empty entries

------ codes, by which a proof tells two values apart

abbrev batch_code : Coded RememberedBatch
batch_code =
    code_by (ℤ × (ℤ × ℤ)) (coded× coded_ℤ (coded× coded_ℤ coded_ℤ))
    (λ b. (b.first, (b.last, b.offset)))
    (λ p. record { first = p.0; last = p.1.0; offset = p.1.1 }) (λ _. refl)

abbrev known_code : Coded Known
known_code =
    code_by (ℕ × (List RememberedBatch × Option ℤ))
    (coded× coded_ℕ (coded× (coded_list batch_code) (coded_option coded_ℤ)))
    (λ k. (k.epoch, (k.remembered, k.marked_by)))
    (λ p. record { epoch = p.0; remembered = p.1.0; marked_by = p.1.1 }) (λ _. refl)

abbrev pub kept_code : Coded Kept
kept_code =
    code_by (Table × Bool) (coded× (map.code coded_ℕ known_code) coded_bool)
    (λ k. (k.table, k.has_room)) (λ p. record { table = p.0; has_room = p.1 }) (λ _. refl)
