use Rattle.std.proofs.Common.{◌≡◌, not, arith, ap, sym, ◌∙◌, is_some, false}
use Rattle.std.specs.HashMap.{spare}
use Rattle.kx_producer.specs.Known.{Kept, known_of}
use Rattle.kx_producer.proofs.Tables.{entries_reordered, known_where, no_buffer, no_spare}
use Rattle.kx_producer.proofs.Tables.{none_there}
use Rattle.kx_producer.proofs.producers.Producers.reserve.Goals as goal
use Rattle.kx_producer.proofs.producers.Producers.reserve.Goals.{in-Some-1, in-None-1}

pub returns-then-contains_key-clause-room : goal.returns-then-contains_key-clause-room
returns-then-contains_key-clause-room c = λ none.
    let known =
    known_where c.self.inside.known.entries c.args.self.now.table c.args.id
    (ap (λ (kept : Kept). kept.table) c.self.view_is)
    ∙ sym c.contains_key.ensures ∙ c.if-contains_key.true in
    let unknown : is_some (known_of c.args.self.now.table c.args.id) ≡ false = ap is_some none in
    absurd (cc)

pub returns-in_err-reserve-clause-err : goal.returns-in_err-reserve-clause-err
returns-in_err-reserve-clause-err c = λ e. (
  none_there (known_of c.args.self.now.table c.args.id)
      (known_where c.self.inside.known.entries c.args.self.now.table c.args.id
      (ap (λ (kept : Kept). kept.table) c.self.view_is)
      ∙ sym c.contains_key.ensures ∙ c.if-contains_key.false),
  ap (λ (kept : Kept). kept.has_room) (sym c.self.view_is)
      ∙ no_spare (spare c.self.inside.known) (is_some c.self.inside.room)
      (λ more. let made = c.in_err-reserve.ensures.succeeds (omega (arith, more)) in cc),
)

pub returns-in_err-room-clause-table : goal.returns-in_err-room-clause-table
returns-in_err-room-clause-table c =
    entries_reordered c.self.inside.known.entries _ c.reserve.ensures.entries.2
    ∙ ap (λ (kept : Kept). kept.table) c.self.view_is

pub returns-in_err-room-clause-err : goal.returns-in_err-room-clause-err
returns-in_err-room-clause-err c = λ e. (
  none_there (known_of c.args.self.now.table c.args.id)
      (known_where c.self.inside.known.entries c.args.self.now.table c.args.id
      (ap (λ (kept : Kept). kept.table) c.self.view_is)
      ∙ sym c.contains_key.ensures ∙ c.if-contains_key.false),
  ap (λ (kept : Kept). kept.has_room) (sym c.self.view_is)
      ∙ no_buffer (spare c.self.inside.known) (is_some c.self.inside.room)
      (λ ready.
      let taken = sym ready ∙ c.is_none.ensures ∙ ap not c.if-is_none.true in cc),
)

pub returns-in_ok-room-clause-table : goal.returns-in_ok-room-clause-table
returns-in_ok-room-clause-table c =
    let table =
    entries_reordered c.self.inside.known.entries c.reserve.new.self.entries
    c.reserve.ensures.entries.2 ∙ ap (λ (kept : Kept). kept.table) c.self.view_is in
    elim c.match-self.branch [
      | in-Some-1 w ↦ ap (λ (kept : Kept). kept.table) w.self-is ∙ table
      | in-None-1 w ↦ ap (λ (kept : Kept). kept.table) w.self-is ∙ table
    ]

pub returns-else-is_none-clause-table : goal.returns-else-is_none-clause-table
returns-else-is_none-clause-table c =
    entries_reordered c.self.inside.known.entries _ c.reserve.ensures.entries.2
    ∙ ap (λ (kept : Kept). kept.table) c.self.view_is
