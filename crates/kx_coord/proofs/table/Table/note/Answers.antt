use Rattle.std.proofs.Common.{rules, ◌≡◌, ◌∙◌, ap, Ok, Err, Result, is_ok}
use Rattle.std.proofs.Common.{true}
use Rattle.std.specs.Prelude.{FitsSigned, OnOk}
use Rattle.std.specs.Int.{w32}
use Rattle.std.proofs.lemmas.Int.{to_z-of_z}
use Rattle.kx_model.specs.Coordinator.{above_ids}
use Rattle.kx_txnlog.specs.Entry.{note_of}
use Rattle.kx_txnlog.specs.declared.entry.Entry.{Entry}
use Rattle.kx_coord.proofs.Following.{follows_allot, follows_epoch, follows_row}
use Rattle.kx_coord.proofs.table.Table.note.Goals as goal

-- what holds of a call that succeeds, if it does
ok_holds : {T E : Type 0} (r : Result T E) (P : Type 0) → is_ok r ≡ true → OnOk r P → P
ok_holds (Ok x) P is h = h
ok_holds (Err e) P is h = absurd cc

pub returns-in-CoordinatorEpoch : goal.returns-in-CoordinatorEpoch
returns-in-CoordinatorEpoch c = λ log h.
    let is = c.in-CoordinatorEpoch.is in
    let fits : FitsSigned w32 c.in-CoordinatorEpoch.epoch = search rules in
    let follows = follows_epoch log _ _ c.args.above _ c.in-CoordinatorEpoch.epoch _ _ h
    (c.requires.above ∙ ap (λ (e : Entry). above_ids (note_of e)) is)
    c.max-self.ensures c.requires.most
    (to_z-of_z w32 c.in-CoordinatorEpoch.epoch fits) in
    rw is follows

pub returns-in-Allot : goal.returns-in-Allot
returns-in-Allot c = λ log h.
    let is = c.in-Allot.is in
    let follows = follows_allot log _ _ c.args.above _ c.in-Allot.field-0 _ h
    (c.requires.above ∙ ap (λ (e : Entry). above_ids (note_of e)) is)
    c.max-self.ensures c.requires.most in
    rw is follows

pub returns-in-Row : goal.returns-in-Row
returns-in-Row c = λ log h.
    let is = c.in-Row.is in
    let room = c.insert.ensures.succeeds c.requires.room in
    let follows = follows_row log c.args.self.now.rows.entries c.insert.new.self.entries _
    c.args.above _ _ c.in-Row.row h
    (c.requires.above ∙ ap (λ (e : Entry). above_ids (note_of e)) is)
    c.max-self.ensures c.requires.most
    (ok_holds c.insert.result _ room c.insert.ensures.entries)
    (ok_holds c.insert.result _ room c.insert.ensures.updates).0 in
    rw is follows
