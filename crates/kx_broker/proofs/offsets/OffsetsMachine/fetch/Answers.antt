use Rattle.std.proofs.Common.{◌∙◌, ◌∷◌, [], ap, sym}
use Rattle.std.specs.Prelude.{min}
use Rattle.kx_batch.specs.Batch.{batch_limit}
use Rattle.kx_broker.specs.Serving.{Serving}
use Rattle.kx_broker.proofs.OffsetsMessages.{fetch_other, fetch_own}
use Rattle.kx_log.specs.LogState.{LogState}
use Rattle.kx_message.specs.declared.message.Message.{Message}
use Rattle.kx_model.specs.Page.{fetched}
use Rattle.kx_model.specs.PartitionNode.{fetch_reply}
use Rattle.kx_broker.proofs.offsets.OffsetsMachine.fetch.Goals as goal

pub returns-in_ok-page-clause-ok : goal.returns-in_ok-page-clause-ok
returns-in_ok-page-clause-ok g c = λ p is.
    let it = c.args.it.now in
    let same = c.partition.ensures.value ∙ ap (λ (o : Serving). o.log) c.self.view_is in
    let page = c.in_ok-page.ensures.ok ∙ ap (λ (l : LogState). fetch_reply it.caller it.partition
    (fetched l.batches it.from (min it.max batch_limit) it.committed)) same in
    fetch_own p c.args.self.now is c.one.result it
    (sym c.eq.ensures ∙ c.if-eq.true) (c.one.ensures ∙ ap (λ (m : Message). m ∷ []) page)

pub returns-else-eq-clause-ok : goal.returns-else-eq-clause-ok
returns-else-eq-clause-ok g c = λ p is.
    fetch_other p c.args.self.now is c.one-else-eq.result c.args.it.now
    (sym c.eq.ensures ∙ c.if-eq.false)
    (c.one-else-eq.ensures ∙ ap (λ (m : Message). m ∷ []) c.refused_fetch-refusal.ensures)
