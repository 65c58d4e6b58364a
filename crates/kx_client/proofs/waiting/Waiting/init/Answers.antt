use Rattle.std.proofs.Common.{◌≡◌, ◌+◌, ◌++◌, [], ◌∷◌, true, filter, take, drop, sym, ap, ◌∙◌}
use Rattle.std.proofs.Common.{subst}
use Rattle.std.specs.List.{list_any}
use Rattle.std.proofs.lemmas.List.{take-append-drop, take_more}
use Rattle.kx_message.specs.declared.message.Message.{Message}
use Rattle.kx_message.specs.declared.message.Message.TheVariants as msg
use Rattle.kx_client.specs.Internal.{HasOneInit}
use Rattle.kx_client.proofs.Inits.{one_found}
use Rattle.kx_model.specs.Client.{is_init}
use Rattle.std.proofs.Common.{List}
use Rattle.kx_client.proofs.waiting.Waiting.init.Goals as goal

pub returns-in-InitProducerId : goal.returns-in-InitProducerId
returns-in-InitProducerId c =
    let ms = c.deref-request-items.result.now in
    let i = c.loop-request.request-index in
    let m : Message = msg.InitProducerId c.in-InitProducerId.init in
    let split : (take i ms ++ m ∷ []) ++ drop (i + 1) ms ≡ ms =
    ap (λ (xs : List Message). xs ++ drop (i + 1) ms)
    (sym (take_more ms i c.request-item.result c.loop-request-test.true
    ∙ ap (λ (x : Message). take i ms ++ x ∷ []) (sym c.request-item.is ∙ c.in-InitProducerId.is)))
    ∙ take-append-drop (i + 1) ms in
    let same = c.deref-request-items.ensures.value in
    let view = ap (λ w. w.messages) c.self.view_is in
    let found = one_found (take i ms) (drop (i + 1) ms) c.in-InitProducerId.init
    (subst HasOneInit (sym (split ∙ same)) c.self.invariant.0) c.loop-request.invariant in
    let whole : (take i ms ++ m ∷ []) ++ drop (i + 1) ms ≡ c.args.self.now.messages =
    split ∙ same ∙ view in
    subst (λ (xs : List Message). (list_any is_init xs ≡ true) × (filter is_init xs ≡ m ∷ []))
    whole found
