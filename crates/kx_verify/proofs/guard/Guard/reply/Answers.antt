use Rattle.std.proofs.Common.{◌≡◌, ◌∙◌, List, sym, ap}
use Rattle.kx_model.specs.Verification.{Parked, parked_for, without}
use Rattle.kx_verify.specs.Internal.Table.{items_at}
use Rattle.kx_verify.proofs.Tables.{looked_up, parked_without, table_without}
use Rattle.kx_verify.proofs.guard.Guard.reply.Goals as goal
use Rattle.kx_verify.proofs.guard.Guard.reply.Goals.{in-None, in-Some}

pub invariant_of-self : goal.invariant_of-self
invariant_of-self c =
    table_without (λ v. v.items) c.self.inside.by_held.entries c.swap_remove.new.self.entries
    c.args.held c.self.invariant c.swap_remove.ensures.unique c.swap_remove.ensures.updates.0

pub returns-clause-others : goal.returns-clause-others
returns-clause-others c = λ held.
    parked_without (λ v. v.items) c.self.inside.by_held.entries c.swap_remove.new.self.entries
    c.args.held c.self.invariant c.swap_remove.ensures.unique c.swap_remove.ensures.updates.0 held
    ∙ ap (λ (l : List Parked). parked_for (without l c.args.held) held) c.self.view_is

pub returns-clause-replied : goal.returns-clause-replied
returns-clause-replied c =
    let all : items_at (λ v. v.items) c.swap_remove.result
    ≡ parked_for c.args.self.now c.args.held =
    ap (items_at (λ v. v.items)) c.swap_remove.ensures.value
    ∙ sym (looked_up (λ v. v.items) c.self.inside.by_held.entries c.self.invariant c.args.held)
    ∙ ap (λ (l : List Parked). parked_for l c.args.held) c.self.view_is in
    elim c.match-swap_remove.branch [
      | in-None w ↦ ap (λ v. v.items) w.result-is ∙ w.new.ensures.items
          ∙ sym (ap (items_at (λ v. v.items)) w.in-None.is) ∙ all
      | in-Some w ↦ ap (λ v. v.items) w.result-is
          ∙ sym (ap (items_at (λ v. v.items)) w.in-Some.is) ∙ all
    ]
