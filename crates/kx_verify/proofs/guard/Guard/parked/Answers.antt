use Rattle.std.proofs.Common.{◌≡◌, ◌∙◌, ◌≤◌, List, Some, length, sym, ap, subst}
use Rattle.std.specs.List.{All}
use Rattle.std.specs.Option.{option_copied}
use Rattle.kx_model.specs.Verification.{Parked, pair_of, parked_for, parked_limit}
use Rattle.kx_verify.specs.Internal.Table.{items_at}
use Rattle.kx_verify.proofs.Tables.{looked_up, table_few, table_own}
use Rattle.kx_verify.proofs.guard.Guard.parked.Goals as goal

pub returns-in-None : goal.returns-in-None
returns-in-None c = record {
  value = sym (ap (λ (l : List Parked). parked_for l c.args.held) (sym c.self.view_is)
      ∙ looked_up (λ v. v.items) c.self.inside.by_held.entries c.self.invariant c.args.held
      ∙ ap (items_at (λ v. v.items)) (sym c.get.ensures.value ∙ ap option_copied c.in-None.is));
  few = subst (λ (l : List Parked). length (parked_for l c.args.held) ≤ parked_limit) c.self.view_is
      (table_few (λ v. v.items) c.self.inside.by_held.entries c.self.invariant c.args.held);
  own = subst (All (λ (p : Parked). pair_of p.request ≡ Some p.held)) c.self.view_is
      (table_own (λ v. v.items) c.self.inside.by_held.entries c.self.invariant);
}

pub returns-in-Some : goal.returns-in-Some
returns-in-Some c = record {
  value = c.as_slice.ensures.value
      ∙ sym (ap (λ (l : List Parked). parked_for l c.args.held) (sym c.self.view_is)
      ∙ looked_up (λ v. v.items) c.self.inside.by_held.entries c.self.invariant c.args.held
      ∙ ap (items_at (λ v. v.items)) (sym c.get.ensures.value ∙ ap option_copied c.in-Some.is));
  few = subst (λ (l : List Parked). length (parked_for l c.args.held) ≤ parked_limit) c.self.view_is
      (table_few (λ v. v.items) c.self.inside.by_held.entries c.self.invariant c.args.held);
  own = subst (All (λ (p : Parked). pair_of p.request ≡ Some p.held)) c.self.view_is
      (table_own (λ v. v.items) c.self.inside.by_held.entries c.self.invariant);
}
