use Rattle.std.proofs.Common.{rules, ap, subst, sym, ◌∙◌, ◌≡◌, List}
use Rattle.std.specs.List.Sorted.{IsPartitionedBy}
use Rattle.std.proofs.lemmas.List.Sorted.{IsPartitionPoint-from_clause}
use Rattle.kx_open.specs.Open.{OpenState, IsPlaceBehind, begins_by}
use Rattle.kx_open.specs.declared.open.OpenTxn.{OpenTxn}
use Rattle.kx_open.proofs.Order.{begin_in_order}
use Rattle.kx_open.proofs.open.OpenTxns.place_behind.Goals as goal

pub returns-clause-between : goal.returns-clause-between
returns-clause-between c =
    let offset = c.args.offset in
    let txns = c.deref.result.now in
    let same : c.deref.result.now ≡ c.self.inside.txns.items = c.deref.ensures.value in
    let parted = subst (IsPartitionedBy (begins_by offset)) (sym same)
    (begin_in_order offset c.self.inside.txns.items c.self.invariant) in
    let found : IsPlaceBehind offset txns c.partition_point.result =
    IsPartitionPoint-from_clause (begins_by offset) txns c.partition_point.result
    c.partition_point.ensures.partitioned parted (λ a r q k. search rules) in
    subst (λ (l : List OpenTxn). IsPlaceBehind offset l c.partition_point.result)
    (same ∙ ap (λ (kept : OpenState). kept.txns) c.self.view_is) found
