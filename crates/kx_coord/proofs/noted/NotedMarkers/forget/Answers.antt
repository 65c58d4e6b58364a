use Rattle.std.proofs.Common.{◌∙◌, List, ap, filter}
use Rattle.std.specs.Prelude.{bytes_eq, not}
use Rattle.std.specs.List.{list_any}
use Rattle.kx_model.specs.Markers.{Answered, same_answered}
use Rattle.kx_coord.proofs.NotedCounts.{forgotten_once}
use Rattle.kx_coord.proofs.NotedTables.{forgotten}
use Rattle.kx_coord.proofs.noted.NotedMarkers.forget.Goals as goal

pub returns : goal.returns
returns c = record {
  same = λ b. forgotten (λ v. v.items) c.args.txn c.self.inside.by_txn.entries
      c.swap_remove.new.self.entries c.self.invariant.0 c.swap_remove.ensures.unique
      c.swap_remove.ensures.updates.0 b
      ∙ ap (λ (l : List Answered). list_any (same_answered b)
      (filter (λ a. not (bytes_eq a.txn c.args.txn)) l)) c.self.view_is;
  once = forgotten_once (λ v. v.items) c.args.txn c.self.inside.by_txn.entries
      c.swap_remove.new.self.entries c.self.invariant.0 c.swap_remove.ensures.unique
      c.swap_remove.ensures.updates.0 c.self.invariant.1;
}

pub invariant_of-self : goal.invariant_of-self
invariant_of-self c = (
  c.swap_remove.ensures.unique,
  forgotten_once (λ v. v.items) c.args.txn c.self.inside.by_txn.entries
      c.swap_remove.new.self.entries c.self.invariant.0 c.swap_remove.ensures.unique
      c.swap_remove.ensures.updates.0 c.self.invariant.1,
)
