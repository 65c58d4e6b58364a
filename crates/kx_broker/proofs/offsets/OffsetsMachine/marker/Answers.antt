use Rattle.std.proofs.Common.{◌∙◌, sym}
use Rattle.std.proofs.lemmas.Bool.{eqb-true}
use Rattle.kx_broker.proofs.OffsetsMessages.{marker_other, marker_own}
use Rattle.kx_group.proofs.Answers.{if_ok}
use Rattle.kx_message.specs.Ranges.{offsets_partition}
use Rattle.kx_broker.proofs.offsets.OffsetsMachine.marker.Goals as goal

pub returns-then-eq-clause-ok : goal.returns-then-eq-clause-ok
returns-then-eq-clause-ok g c = λ p is.
    if_ok c.mark.result (c.mark.ensures.ok p is)
    (λ messages s. marker_own p c.args.self.now c.mark.new.self messages c.args.it.now
    (sym c.eq.ensures ∙ c.if-eq.true) s)

pub returns-else-eq-clause-ok : goal.returns-else-eq-clause-ok
returns-else-eq-clause-ok g c = λ p is.
    marker_other p c.args.self.now is c.none.result c.args.it.now
    (sym c.eq.ensures ∙ c.if-eq.false) c.none.ensures

pub returns-then-eq-clause-memory : goal.returns-then-eq-clause-memory
returns-then-eq-clause-memory g c = λ e. (
  eqb-true c.args.it.now.partition offsets_partition (sym c.eq.ensures ∙ c.if-eq.true),
  c.mark.ensures.memory e,
)
