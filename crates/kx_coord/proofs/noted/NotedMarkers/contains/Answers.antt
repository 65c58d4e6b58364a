use Rattle.std.proofs.Common.{◌∙◌, ap, sym}
use Rattle.std.specs.List.{list_any}
use Rattle.std.specs.Option.{option_copied}
use Rattle.kx_model.specs.Markers.{same_answered}
use Rattle.kx_coord.specs.Noted.{answered, is_marker}
use Rattle.kx_coord.proofs.NotedTables.{is_at, looked_up}
use Rattle.kx_coord.proofs.noted.NotedMarkers.contains.Goals as goal

pub returns-in-None : goal.returns-in-None
returns-in-None c =
    let a = answered c.args.txn c.args.held.now c.args.partition in
    let found = sym c.get.ensures.value ∙ ap option_copied c.in-None.is in
    sym (ap (list_any (same_answered a)) (sym c.self.view_is)
    ∙ looked_up (λ v. v.items) a c.self.inside.by_txn.entries c.self.invariant.0
    ∙ ap (is_at (λ v. v.items) a) found)

pub returns-in-Some : goal.returns-in-Some
returns-in-Some c =
    let a = answered c.args.txn c.args.held.now c.args.partition in
    let found = sym c.get.ensures.value ∙ ap option_copied c.in-Some.is in
    c.has_marker.ensures
    ∙ ap (list_any (is_marker c.args.held.now c.args.partition)) c.as_slice.ensures.value
    ∙ sym (ap (list_any (same_answered a)) (sym c.self.view_is)
    ∙ looked_up (λ v. v.items) a c.self.inside.by_txn.entries c.self.invariant.0
    ∙ ap (is_at (λ v. v.items) a) found)
