-- What the store holds is read again, after appends that worked and ones that failed.
use Rattle.std.proofs.Common.{◌≡◌, ◌∙◌, ◌≤◌, ℕ, Bool, true, false, List, [], ◌∷◌, ◌++◌, take}
use Rattle.std.proofs.Common.{length, refl, sym, ap, subst, arith, Some, None}
use Rattle.std.specs.Prelude.{◌==◌, option_to_list, if◌then◌else◌}
use Rattle.std.proofs.lemmas.Bool.Decides.{nat_tests}
use Rattle.std.proofs.lemmas.List.{append-nil, take_all}
use Rattle.kx_model.specs.Coordinator.{TxnEntry}
use Rattle.kx_txnlog.specs.Layout.{entry_text}
use Rattle.kx_txnlog.specs.Opening.{Holds, IsRight}
use Rattle.kx_txnlog.specs.Ranges.{IsEntry}
use Rattle.kx_txnlog.specs.Reading.{ReadNotes, notes_in}
use Rattle.kx_txnlog.proofs.Logs.{part_behind, written_behind}
use Rattle.kx_coord_node.specs.Stands.{ReadAs}

pub read_as : (bytes others : List ℕ) (notes same : List TxnEntry) → others ≡ bytes → notes ≡ same
    → ReadAs bytes notes → ReadAs others same
read_as bytes others notes same e f read = record {
  notes_are = ap (λ b. (notes_in b).notes) e ∙ read.notes_are ∙ f;
  right = subst (λ b. IsRight (notes_in b).fault) (sym e) read.right;
}

pub read_whole : (bytes : List ℕ) (notes : List TxnEntry) (note : TxnEntry) → Holds bytes notes
    → IsEntry note → ReadAs (bytes ++ entry_text note) (notes ++ note ∷ [])
read_whole bytes notes note holds is =
    let read = written_behind bytes notes note holds is in
    record {
      notes_are = ap (λ (r : ReadNotes). r.notes) read;
      right = subst IsRight (sym (ap (λ (r : ReadNotes). r.fault) read)) tt;
    }

read_left_by : (bytes : List ℕ) (notes : List TxnEntry) (note : TxnEntry) (kept : ℕ) (whole : Bool)
    → Holds bytes notes → IsEntry note → kept ≤ length (entry_text note)
    → (kept == length (entry_text note)) ≡ whole
    → ReadAs (bytes ++ take kept (entry_text note))
    (notes ++ option_to_list (if whole then Some note else None))
read_left_by bytes notes note kept true holds is most e =
    let all : take kept (entry_text note) ≡ entry_text note =
    take_all kept (entry_text note) (grind (arith, nat_tests)) in
    rw all (read_whole bytes notes note holds is)
read_left_by bytes notes note kept false holds is most e =
    let part = part_behind bytes notes note kept holds is (grind (arith, nat_tests)) in
    record { notes_are = part.0 ∙ sym (append-nil notes); right = part.1 }

-- the whole entry, or the front of it, which is cut off
pub read_left : (bytes : List ℕ) (notes : List TxnEntry) (note : TxnEntry) (kept : ℕ) →
    Holds bytes notes
    → IsEntry note → kept ≤ length (entry_text note)
    → ReadAs (bytes ++ take kept (entry_text note))
    (notes ++ option_to_list (if kept == length (entry_text note) then Some note else None))
read_left bytes notes note kept holds is most =
    read_left_by bytes notes note kept (kept == length (entry_text note)) holds is most refl
