use Rattle.std.proofs.Common.{◌≡◌, ◌∙◌, ◌++◌, ◌∷◌, [], Result, Ok, Err, ap, sym, cond}
use Rattle.std.proofs.Common.{None, Some, OnErr}
use Rattle.std.specs.Prelude.{is_some}
use Rattle.std.specs.Map.{lookup}
use Rattle.std.specs.Option.{option_copied_mut}
use Rattle.kx_verify.specs.Internal.Table.{Key, items_at, key_of, same_key}
use Rattle.kx_verify.proofs.Tables.{adds, shown, shown_set, table_same}
use Rattle.kx_verify.proofs.guard.Guard.add.Goals as goal

on_err : {A E : Type 0} (r : Result A E) (P : Type 0) → P → OnErr r P
on_err (Ok x) P p = tt
on_err (Err e) P p = p

pub invariant_of-self : goal.invariant_of-self
invariant_of-self c =
    let es = c.self.inside.by_held.entries in
    let key = key_of c.held-held.result in
    let through = c.get_mut.follows.holds c.push.new.self in
    let found : lookup (same_key key) es ≡ Some c.in-Some.waiting.now =
    sym c.get_mut.ensures.value ∙ ap option_copied_mut c.in-Some.is in
    table_same (λ v. v.items) es (c.get_mut.follows.lender c.push.new.self).entries key
    c.in-Some.waiting.now c.push.new.self c.self.invariant through.4
    (through.3 (ap is_some found)).0 found c.in_err-push.ensures.items

pub returns-in_err-push-clause-err : goal.returns-in_err-push-clause-err
returns-in_err-push-clause-err c =
    let es = c.self.inside.by_held.entries in
    let key = key_of c.held-held.result in
    let through = c.get_mut.follows.holds c.push.new.self in
    let found : lookup (same_key key) es ≡ Some c.in-Some.waiting.now =
    sym c.get_mut.ensures.value ∙ ap option_copied_mut c.in-Some.is in
    let same = ap (shown (λ v. v.items)) through.0
    ∙ shown_set (λ v. v.items) (same_key key) es c.in-Some.waiting.now c.push.new.self found
    c.in_err-push.ensures.items in
    on_err c.from_residual.result _ (same ∙ c.self.view_is)

pub invariant_of-self-in-Some : goal.invariant_of-self-in-Some
invariant_of-self-in-Some c =
    let es = c.self.inside.by_held.entries in
    let key = key_of c.held-held.result in
    let through = c.get_mut.follows.holds c.push.new.self in
    let found : lookup (same_key key) es ≡ Some c.in-Some.waiting.now =
    sym c.get_mut.ensures.value ∙ ap option_copied_mut c.in-Some.is in
    let more : c.push.new.self.items
    ≡ items_at (λ v. v.items) (lookup (same_key key) es) ++ c.args.request ∷ [] =
    c.in_ok-push.ensures.items
    ∙ ap (λ o. items_at (λ v. v.items) o ++ c.args.request ∷ []) (sym found) in
    (adds (λ v. v.items) es (c.get_mut.follows.lender c.push.new.self).entries c.push.new.self
    c.args.request c.args.self.now c.held-held.result c.self.view_is c.held-held.ensures.value
    c.self.invariant through.4 (through.3 (ap is_some found)).0 more c.held-held.ensures.own
    c.requires).0

pub returns-in-Some-clause-ok : goal.returns-in-Some-clause-ok
returns-in-Some-clause-ok c =
    let es = c.self.inside.by_held.entries in
    let key = key_of c.held-held.result in
    let through = c.get_mut.follows.holds c.push.new.self in
    let found : lookup (same_key key) es ≡ Some c.in-Some.waiting.now =
    sym c.get_mut.ensures.value ∙ ap option_copied_mut c.in-Some.is in
    let more : c.push.new.self.items
    ≡ items_at (λ v. v.items) (lookup (same_key key) es) ++ c.args.request ∷ [] =
    c.in_ok-push.ensures.items
    ∙ ap (λ o. items_at (λ v. v.items) o ++ c.args.request ∷ []) (sym found) in
    (adds (λ v. v.items) es (c.get_mut.follows.lender c.push.new.self).entries c.push.new.self
    c.args.request c.args.self.now c.held-held.result c.self.view_is c.held-held.ensures.value
    c.self.invariant through.4 (through.3 (ap is_some found)).0 more c.held-held.ensures.own
    c.requires).1

pub invariant_of-self-2 : goal.invariant_of-self-2
invariant_of-self-2 c =
    let es = c.self.inside.by_held.entries in
    let key = key_of c.held-held.result in
    let none : lookup (same_key key) es ≡ None =
    sym c.get_mut.ensures.value ∙ ap option_copied_mut c.in_default.is in
    let more : c.in_ok-waiting.waiting.items
    ≡ items_at (λ v. v.items) (lookup (same_key key) es) ++ c.args.request ∷ [] =
    c.in_ok-waiting.ensures.items
    ∙ ap (λ o. items_at (λ v. v.items) o ++ c.args.request ∷ []) (sym none) in
    let now : (q : Key) → lookup (same_key q) c.insert.new.self.entries
    ≡ cond (same_key key q) (Some c.in_ok-waiting.waiting) (lookup (same_key q) es) =
    λ q. c.in_ok-insert.ensures.updates.0 q
    ∙ ap (λ m. cond (same_key key q) (Some c.in_ok-waiting.waiting)
    (lookup (same_key q) m.entries)) c.get_mut.follows.holds-at-none in
    (adds (λ v. v.items) es c.insert.new.self.entries c.in_ok-waiting.waiting
    c.args.request c.args.self.now c.held-held.result c.self.view_is c.held-held.ensures.value
    c.self.invariant c.in_ok-insert.ensures.unique now more c.held-held.ensures.own
    c.requires).0

pub returns-clause-ok : goal.returns-clause-ok
returns-clause-ok c =
    let es = c.self.inside.by_held.entries in
    let key = key_of c.held-held.result in
    let none : lookup (same_key key) es ≡ None =
    sym c.get_mut.ensures.value ∙ ap option_copied_mut c.in_default.is in
    let more : c.in_ok-waiting.waiting.items
    ≡ items_at (λ v. v.items) (lookup (same_key key) es) ++ c.args.request ∷ [] =
    c.in_ok-waiting.ensures.items
    ∙ ap (λ o. items_at (λ v. v.items) o ++ c.args.request ∷ []) (sym none) in
    let now : (q : Key) → lookup (same_key q) c.insert.new.self.entries
    ≡ cond (same_key key q) (Some c.in_ok-waiting.waiting) (lookup (same_key q) es) =
    λ q. c.in_ok-insert.ensures.updates.0 q
    ∙ ap (λ m. cond (same_key key q) (Some c.in_ok-waiting.waiting)
    (lookup (same_key q) m.entries)) c.get_mut.follows.holds-at-none in
    (adds (λ v. v.items) es c.insert.new.self.entries c.in_ok-waiting.waiting
    c.args.request c.args.self.now c.held-held.result c.self.view_is c.held-held.ensures.value
    c.self.invariant c.in_ok-insert.ensures.unique now more c.held-held.ensures.own
    c.requires).1
