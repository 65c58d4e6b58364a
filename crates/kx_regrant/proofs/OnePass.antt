-- What an entry more makes of what a log says of a transactional id.
use Rattle.std.proofs.Common.{◌≡◌, ◌∙◌, ◌+◌, ◌<◌, ◌++◌, ℕ, Bool, true, false, List, [], ◌∷◌}
use Rattle.std.proofs.Common.{Option, Some, None, cond, refl, sym, ap, get_or, length, map, take}
use Rattle.std.proofs.lemmas.List.{map-append, take_more}
use Rattle.std.specs.Prelude.{bytes_eq, option_map, ◌&&◌}
use Rattle.std.specs.Option.{option_or}
use Rattle.kx_model.specs.Coordinator.{Row, TxnEntry, CoordinatorEpoch, Allot, Written, last_row}
use Rattle.kx_model.specs.Coordinator.{row_if, row_of}
use Rattle.kx_model.specs.Requests.{own_pair}
use Rattle.kx_model.proofs.Notes.{last_row-push}
use Rattle.kx_txnlog.specs.Entry.{note_of}
use Rattle.kx_txnlog.specs.declared.entry.Entry.{Entry}
use Rattle.kx_regrant.specs.Regrant.{grant_row, granted_again, granted_by, grants}
use Rattle.kx_regrant.specs.Internal.{after_entry, none_seen, said_by, seen_grant, seen_in}
use Rattle.kx_regrant.specs.declared.regrant.Regrant.{Regrant}

-- what two rows say, one if any of them that granted the id
abbrev of_rows : Option Row → Option Row → Regrant
of_rows granting r = record {
  granted = option_map own_pair granting;
  last = option_map said_by r;
}

abbrev with_row : Bool → Regrant → Row → Regrant
with_row new s r = record {
  granted = cond new (Some (own_pair r)) s.granted;
  last = Some (said_by r);
}

by_row : (r : Row) (granting last : Option Row) (own new : Bool)
    → of_rows (option_or (cond (own && new) (Some r) None) granting)
    (option_or (cond own (Some r) None) last)
    ≡ cond own (with_row new (of_rows granting last) r) (of_rows granting last)
by_row r granting last true true = refl
by_row r granting last true false = refl
by_row r granting last false true = refl
by_row r granting last false false = refl

by_note : (txn : List ℕ) (note : TxnEntry) (granting last : Option Row)
    → of_rows (option_or (row_if (λ r. bytes_eq r.txn txn && grants r) note) granting)
    (option_or (row_if (λ r. bytes_eq r.txn txn) note) last)
    ≡ after_entry txn (of_rows granting last) note
by_note txn (CoordinatorEpoch epoch) granting last = refl
by_note txn (Allot id) granting last = refl
by_note txn (Written r) granting last =
    by_row r granting last (bytes_eq r.txn txn) (grants r)

seen_in-push : (txn : List ℕ) (log : List TxnEntry) (note : TxnEntry)
    → seen_in txn (log ++ note ∷ []) ≡ after_entry txn (seen_in txn log) note
seen_in-push txn log note =
    ap (λ (o : Option Row). of_rows o (row_of (log ++ note ∷ []) txn))
    (last_row-push (λ r. bytes_eq r.txn txn && grants r) log note)
    ∙ ap (λ (o : Option Row). of_rows
    (option_or (row_if (λ r. bytes_eq r.txn txn && grants r) note) (grant_row log txn)) o)
    (last_row-push (λ r. bytes_eq r.txn txn) log note)
    ∙ by_note txn note (grant_row log txn) (row_of log txn)

-- and so for the entries up to one
pub seen_more : (txn : List ℕ) (entries : List Entry) (i : ℕ) (x : Entry) (before after : Regrant)
    → i < length entries → x ≡ get_or entries i x
    → before ≡ seen_in txn (map note_of (take i entries))
    → after ≡ after_entry txn before (note_of x)
    → after ≡ seen_in txn (map note_of (take (i + 1) entries))
seen_more txn entries i x before after lt at so is =
    is ∙ ap (λ s. after_entry txn s (note_of x)) so
    ∙ sym (seen_in-push txn (map note_of (take i entries)) (note_of x))
    ∙ ap (seen_in txn) (sym (map-append note_of (take i entries) (x ∷ [])))
    ∙ ap (λ l. seen_in txn (map note_of l))
    (sym (take_more entries i x lt ∙ ap (λ y. take i entries ++ y ∷ []) (sym at)))

pub none_in : (txn : List ℕ) → none_seen ≡ seen_in txn []
unfolding last_row
none_in txn = refl

granted_rows : (granting last : Option Row)
    → seen_grant (option_map own_pair granting) (option_map said_by last)
    ≡ granted_by granting last
granted_rows None last = refl
granted_rows (Some g) None = refl
granted_rows (Some g) (Some r) = refl

-- the grant is what the whole log says
pub grant_is : (txn : List ℕ) (log : List TxnEntry) (s : Regrant) → s ≡ seen_in txn log
    → seen_grant s.granted s.last ≡ granted_again log txn
grant_is txn log s e =
    ap (λ (x : Regrant). seen_grant x.granted x.last) e
    ∙ granted_rows (grant_row log txn) (row_of log txn)
