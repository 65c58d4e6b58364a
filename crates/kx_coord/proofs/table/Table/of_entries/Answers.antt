use Rattle.std.proofs.Common.{◌≡◌, ◌∙◌, ◌+◌, ◌<◌, ◌++◌, ℕ, List, [], ◌∷◌, ap, get_or, length, map}
use Rattle.std.proofs.Common.{subst, sym, take}
use Rattle.std.proofs.lemmas.List.{map-append}
use Rattle.kx_model.specs.Coordinator.{TxnEntry}
use Rattle.kx_txnlog.specs.Entry.{note_of}
use Rattle.kx_txnlog.specs.declared.entry.Entry.{Entry}
use Rattle.kx_coord.specs.Internal.Follows.{Follows}
use Rattle.kx_coord.proofs.HandedOut.{one_taken}
use Rattle.kx_coord.proofs.table.Table.of_entries.Goals as goal

noted_more : (xs : List Entry) (i : ℕ) (x copy : Entry) → i < length xs → x ≡ get_or xs i x
    → note_of copy ≡ note_of x
    → map note_of (take i xs) ++ note_of copy ∷ [] ≡ map note_of (take (i + 1) xs)
noted_more xs i x copy lt at same =
    ap (λ n. map note_of (take i xs) ++ n ∷ []) same
    ∙ sym (map-append note_of (take i xs) (x ∷ []))
    ∙ ap (map note_of) (sym (one_taken xs i x lt at))

pub loop-entry-preserved : goal.loop-entry-preserved
loop-entry-preserved c =
    let log = map note_of (take c.loop-entry.entry-index c.args.entries.now) in
    let follows : Follows log c.reserve.new.self.rows.entries c.reserve.new.self.next_id
    c.reserve.new.self.epoch =
    rw (c.reserve.ensures.same, c.reserve.ensures.next, c.reserve.ensures.epoch)
    c.loop-entry.invariant in
    let noted = c.note.ensures log follows in
    let same = noted_more c.args.entries.now c.loop-entry.entry-index c.entry-item.result
    c.in_ok-copy.copy c.loop-entry-test.true c.entry-item.is c.in_ok-copy.ensures.cases in
    subst (λ (l : List TxnEntry). Follows l c.note.new.self.rows.entries c.note.new.self.next_id
    c.note.new.self.epoch) same noted
