use Rattle.std.proofs.Common.{◌≡◌, ◌∙◌, ap, subst, sym, rules, false, true}
use Rattle.std.specs.Prelude.{◌==◌}
use denote.Enum.Bare.{same_true}
use Rattle.kx_broker.specs.Serving.{IsServed, Serves}
use Rattle.kx_broker.proofs.Messages.{add_other, add_own, not_not}
use Rattle.kx_group.proofs.Answers.{if_ok}
use Rattle.kx_message.specs.contracts.code.ErrorCode.{the_type}
use Rattle.kx_message.specs.declared.code.ErrorCode.{ErrorCode}
use Rattle.kx_message.specs.declared.code.ErrorCode.TheVariants.{NoError}
use Rattle.kx_model.specs.PartitionNode.{on_add_reply}
use Rattle.kx_broker.proofs.machine.PartitionMachine.add_reply.Goals as goal

pub returns-then-ne-clause-ok : goal.returns-then-ne-clause-ok
returns-then-ne-clause-ok g c = λ number p is.
    let it = c.args.it.now in
    let other = ap (λ n. it.partition == n) (sym (c.number.ensures ∙ is.number_is))
    ∙ not_not _ false (sym c.ne.ensures ∙ c.if-ne.true) in
    add_other number p c.args.self.now is c.none.result it other c.none.ensures

pub returns-then-eq-clause-ok : goal.returns-then-eq-clause-ok
returns-then-eq-clause-ok g c = λ number p is.
    let it = c.args.it.now in
    let own = ap (λ n. it.partition == n) (sym (c.number.ensures ∙ is.number_is))
    ∙ not_not _ true (sym c.ne.ensures ∙ c.if-ne.false) in
    let code : it.code ≡ NoError =
    same_true the_type (search rules) it.code NoError (sym c.if-eq.ensures) in
    let served = c.run_parked.ensures.ok number p is in
    if_ok c.run_parked.result served
    (λ messages s. add_own number p c.args.self.now c.run_parked.new.self messages it own
    (subst (λ (e : ErrorCode). Serves (IsServed number) p c.args.self.now c.run_parked.new.self
    (λ store. on_add_reply number p store it.held e) messages) (sym code) s))

pub returns-else-eq-clause-ok : goal.returns-else-eq-clause-ok
returns-else-eq-clause-ok g c = λ number p is.
    let it = c.args.it.now in
    let own = ap (λ n. it.partition == n) (sym (c.number.ensures ∙ is.number_is))
    ∙ not_not _ true (sym c.ne.ensures ∙ c.if-ne.false) in
    if_ok c.refuse_parked.result (c.refuse_parked.ensures.ok number p is)
    (λ messages s. add_own number p c.args.self.now c.refuse_parked.new.self messages it own s)
