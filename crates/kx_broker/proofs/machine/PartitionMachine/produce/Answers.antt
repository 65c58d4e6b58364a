use Rattle.std.proofs.Common.{◌∙◌, ap, sym}
use Rattle.std.specs.Prelude.{◌==◌}
use Rattle.kx_broker.proofs.Messages.{produce_other, produce_own}
use Rattle.kx_group.proofs.Answers.{if_ok}
use Rattle.kx_broker.proofs.machine.PartitionMachine.produce.Goals as goal

pub returns-then-eq-clause-ok : goal.returns-then-eq-clause-ok
returns-then-eq-clause-ok g c = λ number p is.
    let it = c.args.it.now in
    let own = ap (λ n. it.partition == n) (sym (c.number.ensures ∙ is.number_is))
    ∙ sym c.eq.ensures ∙ c.if-eq.true in
    if_ok c.judge.result (c.judge.ensures.ok number p is)
    (λ messages s. produce_own number p c.args.self.now c.judge.new.self messages it own s)

pub returns-else-eq-clause-ok : goal.returns-else-eq-clause-ok
returns-else-eq-clause-ok g c = λ number p is.
    let it = c.args.it.now in
    let other = ap (λ n. it.partition == n) (sym (c.number.ensures ∙ is.number_is))
    ∙ sym c.eq.ensures ∙ c.if-eq.false in
    produce_other number p c.args.self.now is c.refuse.result it other c.refuse.ensures
