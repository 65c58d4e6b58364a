use Rattle.std.proofs.Common.{◌≡◌, refl, ap, sym, ◌∙◌, subst, is_some, unwrap_or}
use Rattle.std.specs.Prelude.{IsSome}
use Rattle.std.proofs.Common.{◌<◌, ◌==◌, ℕ}
use Rattle.std.specs.FinMap.{from_entries, insert}
use Rattle.std.specs.HashMap.{spare}
use Rattle.std.specs.Map.{lookup}
use Rattle.kx_producer.specs.Known.{Kept, Table, epoch_in, fresh, id_in, known_of, known_or_fresh}
use Rattle.kx_producer.specs.Known.{noted, with_entry}
use Rattle.kx_producer.specs.declared.noted.Noted.{Noted}
use Rattle.kx_producer.proofs.Tables.{entry_changed, no_buffer, no_spare, unknown_there}
use Rattle.kx_producer.proofs.producers.Producers.note.Goals as goal

of_entry : (table : Table) (entry : Noted) (id : ℕ) → id ≡ id_in entry
    → insert table id (with_entry entry (known_or_fresh table id (epoch_in entry)))
    ≡ noted entry table
of_entry table entry id same =
    ap (λ i. insert table i (with_entry entry (known_or_fresh table i (epoch_in entry)))) same

pub returns-in-Some : goal.returns-in-Some
returns-in-Some c =
    let known = c.in-Some.producer.now in
    let wrote = c.get_mut.follows.holds c.note.new.self in
    record {
      ok =
          entry_changed c.self.inside.known.entries _ c.args.self.now.table c.id-id.result
          (epoch_in c.args.entry)
          known c.note.new.self (with_entry c.args.entry)
          (ap (λ (kept : Kept). kept.table) c.self.view_is)
          (ap (λ o. unwrap_or o (fresh (epoch_in c.args.entry))) (sym c.in-Some.ensures.value))
          c.note.ensures (wrote.3 (subst (λ o. IsSome o) c.in-Some.ensures.value refl)).0
          ∙ of_entry c.args.self.now.table c.args.entry c.id-id.result c.id-id.ensures;
      err = tt;
      wanted = λ e. absurd (cc);
    }

pub returns-in_err-producer-clause-wanted : goal.returns-in_err-producer-clause-wanted
returns-in_err-producer-clause-wanted c = λ e. (
  ap (known_of c.args.self.now.table) (sym c.id-id.ensures)
      ∙ unknown_there c.self.inside.known.entries c.args.self.now.table c.id-id.result
      (ap (λ (kept : Kept). kept.table) c.self.view_is) (sym c.in_default.ensures.value),
  ap (λ (kept : Kept). kept.has_room) (sym c.self.view_is)
      ∙ no_buffer (spare c.self.inside.known) (is_some c.self.inside.room)
      (λ ready. let made = c.in_err-producer.ensures.made
      (ap is_some c.take.ensures.value ∙ ready) in cc),
)

pub returns-in_err-insert-clause-wanted : goal.returns-in_err-insert-clause-wanted
returns-in_err-insert-clause-wanted c = λ e. (
  ap (known_of c.args.self.now.table) (sym c.id-id.ensures)
      ∙ unknown_there c.self.inside.known.entries c.args.self.now.table c.id-id.result
      (ap (λ (kept : Kept). kept.table) c.self.view_is) (sym c.in_default.ensures.value),
  ap (λ (kept : Kept). kept.has_room) (sym c.self.view_is)
      ∙ no_spare (spare c.self.inside.known) (is_some c.self.inside.room) (λ more.
      let same = c.get_mut.follows.holds-at-none in
      let made = c.in_err-insert.ensures.succeeds (subst (λ m. 0 < spare m) (sym same) more) in cc),
)

pub returns-clause-ok : goal.returns-clause-ok
returns-clause-ok c =
    let same = c.get_mut.follows.holds-at-none in
    entry_changed c.get_mut.follows.lender-at-none.entries _ c.args.self.now.table c.id-id.result
    (epoch_in c.args.entry) c.in_ok-producer.producer c.note-2.new.self
    (with_entry c.args.entry)
    (ap (λ m. from_entries m.entries) same ∙ ap (λ (kept : Kept). kept.table) c.self.view_is)
    (ap (λ o. unwrap_or o (fresh (epoch_in c.args.entry)))
    (ap (λ m. lookup (λ k. c.id-id.result == k) m.entries) same ∙ sym c.in_default.ensures.value)
    ∙ ap fresh (sym c.epoch.ensures) ∙ sym c.in_ok-producer.ensures.fresh) c.note-2.ensures
    c.in_ok-insert.ensures.updates.0
    ∙ of_entry c.args.self.now.table c.args.entry c.id-id.result c.id-id.ensures
