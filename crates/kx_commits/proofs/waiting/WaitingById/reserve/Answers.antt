use Rattle.std.proofs.Common.{◌≡◌, ◌∙◌, Some, None, ap, sym, subst, cond, Result, Ok, Err}
use Rattle.std.proofs.Common.{OnErr, OnOk}
use Rattle.std.specs.Prelude.{is_some, nat_eq}
use Rattle.std.specs.Map.{lookup}
use Rattle.std.specs.Option.{option_copied_mut}
use Rattle.kx_commits.specs.Table.{Waiting, WaitingTable, waiting_in}
use Rattle.kx_commits.proofs.Waiters.{IsSet, known_waiting, new_waiting, stays}
use Rattle.kx_commits.proofs.waiting.WaitingById.reserve.Goals as goal

either_way : {A E P Q X : Type 0} (r : Result A E) → OnOk r P → OnErr r Q → (P → X) → (Q → X) → X
either_way (Ok x) p q f g = f p
either_way (Err e) p q f g = g q

pub returns-in-Some-clause-same : goal.returns-in-Some-clause-same
returns-in-Some-clause-same c =
    let es = c.self.inside.by_id.entries in
    let found : lookup (nat_eq c.args.id) es ≡ Some c.in-Some.waiting.now =
    sym c.get_mut.ensures.value ∙ ap option_copied_mut c.in-Some.is in
    let here = known_waiting es c.args.id c.args.self.now c.in-Some.waiting.now c.self.view_is
    found in
    let through = c.get_mut.follows.holds c.reserve.new.self in
    stays c.args.self.now (c.get_mut.follows.lender c.reserve.new.self).entries c.args.id
    c.reserve.new.self
    (subst (λ (t : WaitingTable). IsSet t (c.get_mut.follows.lender c.reserve.new.self).entries
    c.args.id c.reserve.new.self) c.self.view_is (through.3 (ap is_some found)).0)
    (c.reserve.ensures.same ∙ ap (λ (w : Waiting). w.said) (sym here))

pub returns-clause-same : goal.returns-clause-same
returns-clause-same c =
    let es = c.self.inside.by_id.entries in
    let none : lookup (nat_eq c.args.id) es ≡ None =
    sym c.get_mut.ensures.value ∙ ap option_copied_mut c.in_default.is in
    let before = new_waiting es c.args.id c.args.self.now c.self.view_is none in
    either_way c.insert.result c.insert.ensures.updates c.insert.ensures.err
    (λ updates. stays c.args.self.now c.insert.new.self.entries c.args.id c.reserve-2.new.self
    (λ q. updates.0 q ∙ ap (λ m. cond (nat_eq c.args.id q) (Some c.reserve-2.new.self)
    (lookup (nat_eq q) m.entries)) c.get_mut.follows.holds-at-none
    ∙ ap (λ (t : WaitingTable). cond (nat_eq c.args.id q) (Some c.reserve-2.new.self)
    (lookup (nat_eq q) t)) c.self.view_is)
    (c.in_ok-reserve.ensures.same ∙ c.new-waiting.ensures
    ∙ ap (λ (w : Waiting). w.said) (sym before)))
    (λ unchanged. λ other. ap (λ (t : WaitingTable). (waiting_in t other).said)
    (unchanged ∙ ap (λ m. m.entries) c.get_mut.follows.holds-at-none ∙ c.self.view_is))
