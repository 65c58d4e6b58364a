use Rattle.std.proofs.Common.{◌≡◌, ◌∙◌, ◌++◌, ◌∷◌, [], List, Result, Ok, Err, ap, sym, cond}
use Rattle.std.proofs.Common.{None, Some, ℕ, subst, OnErr}
use Rattle.std.specs.Prelude.{bytes_eq, is_some}
use Rattle.std.specs.Map.{lookup}
use Rattle.std.specs.Option.{option_copied_mut}
use Rattle.kx_coord.specs.Noted.{KeptOnce}
use Rattle.kx_coord.specs.declared.noted.AnsweredMarker.{AnsweredMarker}
use Rattle.kx_coord.proofs.NotedCounts.{shows_noted}
use Rattle.kx_coord.proofs.NotedTables.{items_at, shown, shown_set}
use Rattle.kx_coord.proofs.noted.NotedMarkers.note.Goals as goal

on_err : {A E : Type 0} (r : Result A E) (P : Type 0) → P → OnErr r P
on_err (Ok x) P p = tt
on_err (Err e) P p = p

pub invariant_of-self : goal.invariant_of-self
invariant_of-self c =
    let es = c.self.inside.by_txn.entries in
    let through = c.get_mut.follows.holds c.push.new.self in
    let found : lookup (bytes_eq c.args.txn) es ≡ Some c.in-Some.markers.now =
    sym c.get_mut.ensures.value ∙ ap option_copied_mut c.in-Some.is in
    let same = ap (shown (λ v. v.items)) through.0
    ∙ shown_set (λ v. v.items) (bytes_eq c.args.txn) es c.in-Some.markers.now c.push.new.self found
    c.in_err-push.ensures.items in
    (through.4, subst KeptOnce (sym same) c.self.invariant.1)

pub returns-in_err-push-clause-err : goal.returns-in_err-push-clause-err
returns-in_err-push-clause-err c =
    let es = c.self.inside.by_txn.entries in
    let through = c.get_mut.follows.holds c.push.new.self in
    let found : lookup (bytes_eq c.args.txn) es ≡ Some c.in-Some.markers.now =
    sym c.get_mut.ensures.value ∙ ap option_copied_mut c.in-Some.is in
    let same = ap (shown (λ v. v.items)) through.0
    ∙ shown_set (λ v. v.items) (bytes_eq c.args.txn) es c.in-Some.markers.now c.push.new.self found
    c.in_err-push.ensures.items in
    on_err c.from_residual.result _ (same ∙ c.self.view_is)

pub returns-in-Some-clause-ok : goal.returns-in-Some-clause-ok
returns-in-Some-clause-ok c =
    let marker : AnsweredMarker = record { held = c.args.held.now; partition = c.args.partition } in
    let es = c.self.inside.by_txn.entries in
    let through = c.get_mut.follows.holds c.push.new.self in
    let found : lookup (bytes_eq c.args.txn) es ≡ Some c.in-Some.markers.now =
    sym c.get_mut.ensures.value ∙ ap option_copied_mut c.in-Some.is in
    let is : c.push.new.self.items
    ≡ items_at (λ v. v.items) (lookup (bytes_eq c.args.txn) es) ++ marker ∷ [] =
    c.in_ok-push.ensures.items
    ∙ ap (λ o. items_at (λ v. v.items) o ++ marker ∷ []) (sym found) in
    shows_noted (λ v. v.items) c.args.txn marker es
    (c.get_mut.follows.lender c.push.new.self).entries c.push.new.self c.args.self.now
    c.self.invariant.0 through.4 (through.3 (ap is_some found)).0 is c.self.invariant.1
    c.self.view_is (sym c.contains.ensures ∙ c.if-contains.false)

pub invariant_of-self-in-Some : goal.invariant_of-self-in-Some
invariant_of-self-in-Some c =
    ((c.get_mut.follows.holds c.push.new.self).4, (returns-in-Some-clause-ok c).once)

pub returns-clause-ok : goal.returns-clause-ok
returns-clause-ok c =
    let marker : AnsweredMarker = record { held = c.args.held.now; partition = c.args.partition } in
    let es = c.self.inside.by_txn.entries in
    let none : lookup (bytes_eq c.args.txn) es ≡ None =
    sym c.get_mut.ensures.value ∙ ap option_copied_mut c.in_default.is in
    let is : c.in_ok-markers.markers.items
    ≡ items_at (λ v. v.items) (lookup (bytes_eq c.args.txn) es) ++ marker ∷ [] =
    c.in_ok-markers.ensures.items
    ∙ ap (λ o. items_at (λ v. v.items) o ++ marker ∷ []) (sym none) in
    let updated : (q : List ℕ) → lookup (bytes_eq q) c.insert.new.self.entries
    ≡ cond (bytes_eq c.args.txn q) (Some c.in_ok-markers.markers) (lookup (bytes_eq q) es) =
    λ q. c.in_ok-insert.ensures.updates.0 q
    ∙ ap (λ m. cond (bytes_eq c.args.txn q) (Some c.in_ok-markers.markers)
    (lookup (bytes_eq q) m.entries)) c.get_mut.follows.holds-at-none in
    shows_noted (λ v. v.items) c.args.txn marker es c.insert.new.self.entries
    c.in_ok-markers.markers c.args.self.now c.self.invariant.0 c.in_ok-insert.ensures.unique updated
    is c.self.invariant.1 c.self.view_is (sym c.contains.ensures ∙ c.if-contains.false)

pub invariant_of-self-2 : goal.invariant_of-self-2
invariant_of-self-2 c = (c.in_ok-insert.ensures.unique, (returns-clause-ok c).once)
