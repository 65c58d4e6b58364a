-- The log on its store as a disk of the definitions: after an append that worked, and after one
-- that failed.
use Rattle.std.proofs.Common.{◌≡◌, ◌≤◌, ◌<◌, ℕ, Bool, true, false, cond, List, [], ◌∷◌}
use Rattle.std.proofs.Common.{◌++◌, length, take, Option, Some, None, refl, sym, ap, ◌∙◌, subst}
use Rattle.std.proofs.Common.{arith, append-nil}
use Rattle.std.specs.Prelude.{nat_le, not, ◌&&◌, ◌||◌, option_to_list, ℤ}
use Rattle.std.proofs.lemmas.Bool.Decides.{nat_tests}
use Rattle.std.proofs.lemmas.List.{take_all}
use Rattle.kx_broker.specs.Serving.{IsDisk}
use Rattle.kx_log.proofs.Reading.{read_again, read_part}
use Rattle.kx_log.proofs.Segments.{texts-push}
use Rattle.kx_log.specs.Log.{IsLog, IsStored, NoTail, ReadLog, log_in, texts}
use Rattle.kx_log.specs.LogState.{AppendBreaks, IsAppendedTo, LogState, placed_text}
use Rattle.kx_log.specs.Opening.{IsRight}
use Rattle.kx_log.specs.Store.{StoreState}
use Rattle.kx_model.specs.Disk.{Disk, Store, Works, Fails, CannotLoad, appended, left_behind}
use Rattle.kx_model.specs.Disk.{made, works}
use Rattle.kx_model.specs.Log.{Stored, end, entries}
use Rattle.kx_model.specs.Produce.{stored_at}
use Rattle.kx_model.specs.Producers.{expected}

-- a text as the log stores it behind these batches
abbrev pub next_in : List ℕ → List Stored → Stored
next_in text log = stored_at (end (entries log)) text

abbrev pub with_next : List ℕ → List Stored → List Stored
with_next text log = log ++ next_in text log ∷ []

-- with the text the log is still one that such a server grows, in which no sequence goes back
pub record Grows (Fits : List Stored → Type 0) (log : List Stored) (text : List ℕ) : Type 0 where
  pub stored : IsStored (next_in text log)
  pub placed : IsLog (with_next text log)
  pub fits : Fits (with_next text log)
  pub later : (id epoch : ℕ)
      → expected (entries log) id epoch ≤ expected (entries (with_next text log)) id epoch

-- a log that stands alone in its store
pub plain_disk : (Fits : List Stored → Type 0) (kept : List Stored) (log : LogState)
    → log.batches ≡ kept → log.closed ≡ false → log.store.bytes ≡ texts kept → IsLog kept
    → Fits kept → IsDisk Fits (made kept) log
plain_disk Fits kept log same still holds placed fits =
    let all : kept ≡ kept ++ [] = sym (append-nil kept) in
    let read : log_in log.store.bytes ≡ record { batches = kept; tail = NoTail } =
    ap log_in holds ∙ read_again kept placed.stored placed.stand in
    record {
      kept = same;
      closed = still;
      shown = λ e. refl;
      found = ap (λ (r : ReadLog). r.batches) read ∙ all;
      tail = subst (λ (r : ReadLog). IsRight r.tail) (sym read) tt;
      placed = subst IsLog all placed;
      fits = subst Fits all fits;
    }

------ the disk after an append

module _ (disk : Disk Stored) (item : Stored) where
  abbrev as_if : Store → Bool → Disk Stored
  as_if store closed = record {
    kept = cond (not closed && works store) (disk.kept ++ item ∷ []) disk.kept;
    hidden = cond closed disk.hidden (left_behind store item);
    closed = closed || not (works store);
  }

  -- in a log that is closed nothing changes
  pub appended_closed : (store : Store) → disk.closed ≡ true → appended disk store item ≡ disk
  appended_closed store e =
      ap (as_if store) e ∙ λ i. record disk { closed = sym e i }

  pub appended_works : (store : Store) → disk.closed ≡ false → works store ≡ true
      → appended disk store item ≡ made (disk.kept ++ item ∷ [])
  appended_works Works still h = ap (as_if Works) still
  appended_works (Fails whole) still h = absurd cc
  appended_works CannotLoad still h = ap (as_if CannotLoad) still

  abbrev broken : Bool → Disk Stored
  broken whole = record {
    kept = disk.kept;
    hidden = cond whole (Some item) None;
    closed = true;
  }

  pub appended_fails : (whole : Bool) → disk.closed ≡ false
      → appended disk (Fails whole) item ≡ broken whole
  appended_fails whole still = ap (as_if (Fails whole)) still

module _ (Fits : List Stored → Type 0) (disk : Disk Stored) (old new : LogState) (text : List ℕ)
    (is : IsDisk Fits disk old) (grows : Grows Fits disk.kept text)
    (holds : old.store.bytes ≡ texts old.batches) where
  abbrev item : Stored
  item = next_in text disk.kept

  abbrev more : List Stored
  more = with_next text disk.kept

  -- the text as it is written
  placed_is : placed_text old.batches text ≡ item.text
  placed_is = ap (λ (b : List Stored). placed_text b text) is.kept

  held : old.store.bytes ≡ texts disk.kept
  held = holds ∙ ap texts is.kept

  pub appended_disk : (offset : ℤ) (store : Store) → works store ≡ true
      → IsAppendedTo text old new offset → IsDisk Fits (appended disk store item) new
  appended_disk offset store working h =
      let still : disk.closed ≡ false = sym is.closed ∙ h.not_closed in
      let bytes : new.store.bytes ≡ texts more =
      ap (λ (s : StoreState). s.bytes) h.store.is
      ∙ ap (λ (b : List ℕ). b ++ placed_text old.batches text) held
      ∙ ap (λ (b : List ℕ). texts disk.kept ++ b) placed_is
      ∙ sym (texts-push disk.kept item) in
      subst (λ (d : Disk Stored). IsDisk Fits d new)
      (sym (appended_works disk item store still working))
      (plain_disk Fits more new
      (ap (λ (l : LogState). l.batches) h.rest ∙ ap (with_next text) is.kept)
      (ap (λ (l : LogState). l.closed) h.rest ∙ h.not_closed)
      bytes grows.placed grows.fits)

  module _ (h : AppendBreaks text old new) where
    abbrev kept : ℕ
    kept = h.store.kept

    abbrev size : ℕ
    size = length item.text

    batches_same : new.batches ≡ disk.kept
    batches_same = ap (λ (l : LogState). l.batches) h.rest ∙ is.kept

    closed_now : new.closed ≡ true
    closed_now = ap (λ (l : LogState). l.closed) h.rest

    bytes_are : new.store.bytes ≡ texts disk.kept ++ take kept item.text
    bytes_are =
        ap (λ (s : StoreState). s.bytes) h.store.rest
        ∙ ap (λ (b : List ℕ). b ++ take kept (placed_text old.batches text)) held
        ∙ ap (λ (b : List ℕ). texts disk.kept ++ take kept b) placed_is

    -- the whole entry stands behind the log
    whole_disk : size ≤ kept → IsDisk Fits (broken disk item true) new
    whole_disk le =
        let bytes : new.store.bytes ≡ texts more =
        bytes_are ∙ ap (λ (b : List ℕ). texts disk.kept ++ b) (take_all kept item.text le)
        ∙ sym (texts-push disk.kept item) in
        let read : log_in new.store.bytes ≡ record { batches = more; tail = NoTail } =
        ap log_in bytes ∙ read_again more grows.placed.stored grows.placed.stand in
        record {
          kept = batches_same;
          closed = closed_now;
          shown = λ e. absurd cc;
          found = ap (λ (r : ReadLog). r.batches) read;
          tail = subst (λ (r : ReadLog). IsRight r.tail) (sym read) tt;
          placed = grows.placed;
          fits = grows.fits;
        }

    -- only a part of it does
    part_disk : kept < size → IsDisk Fits (broken disk item false) new
    part_disk lt =
        let all : disk.kept ≡ disk.kept ++ [] = sym (append-nil disk.kept) in
        let none = is.shown (sym is.closed ∙ h.not_closed) in
        let same : disk.kept ++ option_to_list disk.hidden ≡ disk.kept =
        ap (λ (o : Option Stored). disk.kept ++ option_to_list o) none ∙ append-nil disk.kept in
        let placed : IsLog disk.kept = subst IsLog same is.placed in
        let fits : Fits disk.kept = subst Fits same is.fits in
        let read = read_part disk.kept item kept placed.stored placed.stand grows.stored lt in
        record {
          kept = batches_same;
          closed = closed_now;
          shown = λ e. absurd cc;
          found = ap (λ (b : List ℕ). (log_in b).batches) bytes_are ∙ read.0 ∙ all;
          tail = subst (λ (b : List ℕ). IsRight (log_in b).tail) (sym bytes_are) read.1;
          placed = subst IsLog all placed;
          fits = subst Fits all fits;
        }

    by_size : (whole : Bool) → nat_le size kept ≡ whole → IsDisk Fits (broken disk item whole) new
    by_size true e = whole_disk (grind (arith, nat_tests, e))
    by_size false e = part_disk (grind (arith, nat_tests, e))

    pub broken_disk : IsDisk Fits (appended disk (Fails (nat_le size kept)) item) new
    broken_disk =
        subst (λ (d : Disk Stored). IsDisk Fits d new)
        (sym (appended_fails disk item (nat_le size kept) (sym is.closed ∙ h.not_closed)))
        (by_size (nat_le size kept) refl)
