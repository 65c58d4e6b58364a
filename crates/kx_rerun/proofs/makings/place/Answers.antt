use Rattle.std.proofs.Common.{◌≡◌, ◌∙◌, List, ap, sym, subst, arith, map}
use Rattle.std.specs.Prelude.{All}
use Rattle.std.specs.List.{insert}
use Rattle.std.proofs.lemmas.List.{length-map}
use Rattle.kx_core.specs.declared.event.Event.{Event}
use Rattle.kx_rerun.specs.Making.{IsMaking, client_made, number_in, place_in}
use Rattle.kx_rerun.proofs.Placing.{all_placed, place_within, placed_in}
use Rattle.kx_rerun.proofs.makings.place.Goals as goal

pub insert-requires : goal.insert-requires
insert-requires g c =
    let items = c.args.made.now.items in
    let at : c.place_of-at.result ≡ place_in c.number_of.result (map number_in items) =
    c.place_of-at.ensures
    ∙ ap (λ (l : List (Event _)). place_in c.number_of.result (map number_in l))
    c.as_slice.ensures.value in
    omega (
      arith,
      at,
      place_within c.number_of.result (map number_in items),
      length-map items number_in,
      c.args.made.now.ok.0,
    )

pub returns-clause-makings : goal.returns-clause-makings
returns-clause-makings g c =
    subst (λ (l : List (Event _)). All IsMaking l) (sym c.in_default.ensures.items)
    (all_placed IsMaking c.args.made.now.items c.place_of-at.result c.args.event
    c.requires.makings c.requires.making)

pub returns-clause-placed : goal.returns-clause-placed
returns-clause-placed g c =
    let made = client_made g.F.Process.image_of in
    let items = c.args.made.now.items in
    let at : c.place_of-at.result ≡ place_in (number_in c.args.event) (map number_in items) =
    c.place_of-at.ensures
    ∙ ap (λ (l : List (Event _)). place_in c.number_of.result (map number_in l))
    c.as_slice.ensures.value
    ∙ ap (λ n. place_in n (map number_in items)) c.number_of.ensures in
    ap (λ (l : List (Event _)). map made l) c.in_default.ensures.items
    ∙ ap (λ n. map made (insert items n c.args.event)) at
    ∙ placed_in g.F.Process.image_of items c.args.event
