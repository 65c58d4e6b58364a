use Rattle.std.proofs.Common.{◌∙◌, ◌∷◌, [], ap, rules}
use Rattle.std.specs.Int.{w64}
use Rattle.std.specs.Int.RustNames.{FitsSigned}
use Rattle.std.proofs.lemmas.Int.{to_z-of_z}
use Rattle.kx_broker.specs.Serving.{Serving}
use Rattle.kx_broker.proofs.OffsetsMessages.{offset_fetched}
use Rattle.kx_message.specs.Messages as the
use Rattle.kx_model.specs.Groups.{OffsetAnswer, offset_fetch}
use Rattle.kx_model.specs.Log.{entries}
use Rattle.kx_broker.proofs.offsets.OffsetsMachine.offset_fetch.Goals as goal

pub returns : goal.returns
returns g c = λ p is.
    let it = c.args.it.now in
    let a : OffsetAnswer =
    record { code = c.offset_fetch-code.result.0; offset = c.offset_fetch-code.result.1 } in
    let fits : FitsSigned w64 a.offset = search rules in
    let number = to_z-of_z w64 a.offset fits in
    offset_fetched p c.args.self.now is it a c.one.result
    (c.offset_fetch-code.ensures
    ∙ ap (λ (o : Serving). offset_fetch (entries o.log.batches) it.group it.partition it.stable)
    c.self.view_is)
    (c.one.ensures ∙ λ i. the.OffsetFetchReply it.caller a.code (number i) ∷ [])
