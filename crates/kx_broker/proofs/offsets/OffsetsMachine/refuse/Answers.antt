use Rattle.std.proofs.Common.{◌∙◌, ◌∷◌, [], ap, sym}
use Rattle.kx_broker.proofs.OffsetsMessages.{batch_other, batch_own}
use Rattle.kx_message.specs.declared.message.Message.{Message}
use Rattle.kx_broker.proofs.offsets.OffsetsMachine.refuse.Goals as goal

pub returns-then-eq : goal.returns-then-eq
returns-then-eq g c = λ p is.
    batch_own p c.args.self.now is c.none.result c.args.it.now (sym c.eq.ensures ∙ c.if-eq.true)
    c.none.ensures

pub returns-else-eq : goal.returns-else-eq
returns-else-eq g c = λ p is.
    batch_other p c.args.self.now is c.one.result c.args.it.now
    (sym c.eq.ensures ∙ c.if-eq.false)
    (c.one.ensures ∙ ap (λ (m : Message). m ∷ []) c.refused_batch.ensures)
