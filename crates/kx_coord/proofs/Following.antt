-- What the coordinator keeps of its log follows it.
use Rattle.std.proofs.Common.{◌≡◌, ◌∙◌, ◌≤◌, ◌++◌, ℕ, ℤ, pos, List, [], ◌∷◌, Bool}
use Rattle.std.proofs.Common.{true, false, Option, Some, None, refl, sym, ap, subst, cond, map, max}
use Rattle.std.proofs.Common.{arith}
use Rattle.std.specs.Prelude.{bytes_eq, if◌then◌else◌, option_map}
use Rattle.std.specs.List.{AllByRecursion}
use Rattle.std.specs.Map.{lookup}
use Rattle.std.specs.Option.{option_or}
use Rattle.std.proofs.lemmas.Slice.Eq.{bytes_eq-Decides}
use Rattle.indexmap.specs.IndexMap.{insert_entry}
use Rattle.kx_model.specs.Coordinator.{TxnEntry, CoordinatorEpoch, Allot, Written, above_ids}
use Rattle.kx_model.specs.Coordinator.{coordinator_epoch, next_id, last_row}
use Rattle.kx_model.specs.CoordinatorNode.{id_limit}
use Rattle.kx_model.proofs.Notes.{coordinator_epoch-push, last_row-push, next_id-push}
use Rattle.kx_txnlog.specs.Entry.{row_of}
use Rattle.kx_txnlog.specs.declared.entry.Row.{Row}
use Rattle.kx_coord.specs.Internal.Follows.{Follows}
use Rattle.kx_coord.proofs.LastRows.{put_row, rows-push, rows_stay}

-- nothing is kept of an empty log
pub follows_none : (entries : List (List ℕ × Row)) → entries ≡ [] → Follows [] entries 0 (pos 0)
unfolding last_row next_id coordinator_epoch
follows_none entries none = record {
  row_is = λ txn. ap (λ l. option_map row_of (lookup (bytes_eq txn) l)) (sym none);
  keyed = subst (AllByRecursion (λ e. e.0 ≡ e.1.txn)) (sym none) tt;
  rows_are = ap (map (λ e. row_of e.1)) none;
  next_is = refl;
  next_fits = omega arith;
  epoch_is = refl;
}

-- the next id after an entry
next_after : (log : List TxnEntry) (note : TxnEntry) (next above now : ℕ) → next ≡ next_id log
    → above ≡ above_ids note → now ≡ max next above → now ≡ next_id (log ++ note ∷ [])
next_after log note next above now e f g =
    g ∙ (λ i. max (e i) (f i)) ∙ sym (next_id-push log note)

-- after the coordinator's own epoch
pub follows_epoch : (log : List TxnEntry) (entries : List (List ℕ × Row)) (next above now : ℕ)
    (n epoch new : ℤ) → Follows log entries next epoch → above ≡ above_ids (CoordinatorEpoch n)
    → now ≡ max next above → above ≤ id_limit → new ≡ n
    → Follows (log ++ CoordinatorEpoch n ∷ []) entries now new
follows_epoch log entries next above now n epoch new h e f le is = record {
  row_is = λ txn. last_row-push (λ q. bytes_eq q.txn txn) log (CoordinatorEpoch n) ∙ h.row_is txn;
  keyed = h.keyed;
  rows_are = h.rows_are ∙ sym (rows_stay log (CoordinatorEpoch n) refl (λ t. refl));
  next_is = next_after log (CoordinatorEpoch n) next above now h.next_is e f;
  next_fits = omega (arith, h.next_fits, f, le);
  epoch_is = is ∙ sym (coordinator_epoch-push log (CoordinatorEpoch n));
}

-- after an id that was handed out
pub follows_allot : (log : List TxnEntry) (entries : List (List ℕ × Row)) (next above now id : ℕ)
    (epoch : ℤ) → Follows log entries next epoch → above ≡ above_ids (Allot id)
    → now ≡ max next above → above ≤ id_limit
    → Follows (log ++ Allot id ∷ []) entries now epoch
follows_allot log entries next above now id epoch h e f le = record {
  row_is = λ txn. last_row-push (λ q. bytes_eq q.txn txn) log (Allot id) ∙ h.row_is txn;
  keyed = h.keyed;
  rows_are = h.rows_are ∙ sym (rows_stay log (Allot id) refl (λ t. refl));
  next_is = next_after log (Allot id) next above now h.next_is e f;
  next_fits = omega (arith, h.next_fits, f, le);
  epoch_is = h.epoch_is ∙ sym (coordinator_epoch-push log (Allot id));
}

------ a row

insert_one : (row : Row) (e : List ℕ × Row) (es : List (List ℕ × Row)) (b : Bool)
    → map (λ e. row_of e.1) (insert_entry bytes_eq es row.txn row)
    ≡ put_row (row_of row) (map (λ e. row_of e.1) es)
    → map (λ e. row_of e.1)
    (cond b ((e.0, row) ∷ es) (e ∷ insert_entry bytes_eq es row.txn row))
    ≡ cond b (row_of row ∷ map (λ e. row_of e.1) es)
    (row_of e.1 ∷ put_row (row_of row) (map (λ e. row_of e.1) es))
insert_one row e es true rest = refl
insert_one row e es false rest = ap (λ l. row_of e.1 ∷ l) rest

-- an entry of the table is inserted as its row is put
insert_rows : (row : Row) (es : List (List ℕ × Row)) → AllByRecursion (λ e. e.0 ≡ e.1.txn) es
    → map (λ e. row_of e.1) (insert_entry bytes_eq es row.txn row)
    ≡ put_row (row_of row) (map (λ e. row_of e.1) es)
insert_rows row [] keyed = refl
insert_rows row (e ∷ es) keyed =
    insert_one row e es (bytes_eq row.txn e.0) (insert_rows row es keyed.1)
    ∙ ap (λ t. cond (bytes_eq row.txn t) (row_of row ∷ map (λ e. row_of e.1) es)
    (row_of e.1 ∷ put_row (row_of row) (map (λ e. row_of e.1) es))) keyed.0

keyed_one : (row : Row) (e : List ℕ × Row) (es : List (List ℕ × Row)) (b : Bool)
    → bytes_eq row.txn e.0 ≡ b → e.0 ≡ e.1.txn → AllByRecursion (λ e. e.0 ≡ e.1.txn) es
    → AllByRecursion (λ e. e.0 ≡ e.1.txn) (insert_entry bytes_eq es row.txn row)
    → AllByRecursion (λ e. e.0 ≡ e.1.txn)
    (cond b ((e.0, row) ∷ es) (e ∷ insert_entry bytes_eq es row.txn row))
keyed_one row e es true same here all rest = (sym ((bytes_eq-Decides row.txn e.0).0 same), all)
keyed_one row e es false same here all rest = (here, rest)

keyed_insert : (row : Row) (es : List (List ℕ × Row))
    → AllByRecursion (λ e. e.0 ≡ e.1.txn) es
    → AllByRecursion (λ e. e.0 ≡ e.1.txn) (insert_entry bytes_eq es row.txn row)
keyed_insert row [] all = (refl, tt)
keyed_insert row (e ∷ es) all =
    keyed_one row e es (bytes_eq row.txn e.0) refl all.0 all.1 (keyed_insert row es all.1)

looked_up : (row : Row) (o : Option Row) (b : Bool)
    → option_or (if b then Some (row_of row) else None) (option_map row_of o)
    ≡ option_map row_of (cond b (Some row) o)
looked_up row o true = refl
looked_up row o false = refl

-- after a row
pub follows_row : (log : List TxnEntry) (entries new : List (List ℕ × Row)) (next above now : ℕ)
    (epoch : ℤ) (row : Row) → Follows log entries next epoch
    → above ≡ above_ids (Written (row_of row)) → now ≡ max next above → above ≤ id_limit
    → new ≡ insert_entry bytes_eq entries row.txn row
    → ((txn : List ℕ) → lookup (bytes_eq txn) new
    ≡ cond (bytes_eq row.txn txn) (Some row) (lookup (bytes_eq txn) entries))
    → Follows (log ++ Written (row_of row) ∷ []) new now epoch
follows_row log entries new next above now epoch row h e f le is found = record {
  row_is = λ txn. last_row-push (λ q. bytes_eq q.txn txn) log (Written (row_of row))
      ∙ ap (option_or (if bytes_eq row.txn txn then Some (row_of row) else None)) (h.row_is txn)
      ∙ looked_up row (lookup (bytes_eq txn) entries) (bytes_eq row.txn txn)
      ∙ ap (option_map row_of) (sym (found txn));
  keyed = subst (AllByRecursion (λ e. e.0 ≡ e.1.txn)) (sym is) (keyed_insert row entries h.keyed);
  rows_are = ap (map (λ e. row_of e.1)) is ∙ insert_rows row entries h.keyed
      ∙ ap (put_row (row_of row)) h.rows_are ∙ sym (rows-push log (row_of row));
  next_is = next_after log (Written (row_of row)) next above now h.next_is e f;
  next_fits = omega (arith, h.next_fits, f, le);
  epoch_is = h.epoch_is ∙ sym (coordinator_epoch-push log (Written (row_of row)));
}

-- the rows of a table
pub rows_of : (es : List (List ℕ × Row))
    → map row_of (map (λ e. e.1) es) ≡ map (λ e. row_of e.1) es
rows_of [] = refl
rows_of (e ∷ es) = ap (λ l. row_of e.1 ∷ l) (rows_of es)
