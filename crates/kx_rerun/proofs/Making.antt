-- The clients of the traces are made as the audit's schedule makes them.
use Rattle.std.proofs.Common.{◌≡◌, ◌∙◌, List, [], ◌∷◌, All, refl, ap, map}
use Rattle.std.proofs.lemmas.List.Elements.{All-cons, All-head, All-nil, All-tail}
use Rattle.kx_audit.specs.Making.{making_event}
use Rattle.kx_core.specs.declared.event.Event as happening
use Rattle.kx_core.specs.declared.event.Event.TheVariants as event
use Rattle.kx_pipeline.specs.OpenSystems.{Inside, OpenSystemEvent}
use Rattle.kx_rerun.specs.Events.{IsSure, meaning}
use Rattle.kx_rerun.specs.Making.{IsMaking, client_made}
use Rattle.kx_system.specs.Processor.{Images}

module _ {F : Type 0} (image_of : F → Images) where
  means : (e : happening.Event F) → IsMaking e
      → meaning image_of e ≡ Inside (making_event (client_made image_of e))
  means (event.Make client txn timeout) is = refl
  means (event.MakeProcessor client txn timeout group inputs process) is = refl
  means (event.Deliver number to mode) is = absurd is
  means (event.Hand to input mode) is = absurd is
  means (event.Arrive request) is = absurd is

  pub all_mean : (es : List (happening.Event F)) → All IsMaking es
      → map (meaning image_of) es
      ≡ map Inside (map making_event (map (client_made image_of) es))
  all_mean [] all = refl
  all_mean (e ∷ es) all =
      ap (λ (o : OpenSystemEvent). o ∷ map (meaning image_of) es)
      (means e (All-head IsMaking e es all))
      ∙ ap (λ (l : List OpenSystemEvent).
      Inside (making_event (client_made image_of e)) ∷ l)
      (all_mean es (All-tail IsMaking e es all))

making_sure : {F : Type 0} (e : happening.Event F) → IsMaking e → IsSure e
making_sure (event.Make client txn timeout) is = tt
making_sure (event.MakeProcessor client txn timeout group inputs process) is = tt
making_sure (event.Deliver number to mode) is = absurd is
making_sure (event.Hand to input mode) is = absurd is
making_sure (event.Arrive request) is = absurd is

pub all_making_sure : {F : Type 0} (es : List (happening.Event F)) → All IsMaking es
    → All IsSure es
all_making_sure [] all = All-nil IsSure
all_making_sure (e ∷ es) all =
    All-cons IsSure e es (making_sure e (All-head IsMaking e es all))
    (all_making_sure es (All-tail IsMaking e es all))
