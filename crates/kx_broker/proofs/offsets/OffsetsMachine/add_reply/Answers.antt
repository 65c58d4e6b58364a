use Rattle.std.proofs.Common.{◌≡◌, ◌∙◌, subst, sym, rules, false, true}
use denote.Enum.Bare.{same_true}
use Rattle.kx_broker.specs.Offsets.{KeepsOffsets}
use Rattle.kx_broker.specs.Serving.{Serves}
use Rattle.kx_broker.proofs.Messages.{not_not}
use Rattle.kx_broker.proofs.OffsetsMessages.{add_other, add_own}
use Rattle.kx_group.proofs.Answers.{if_ok}
use Rattle.kx_message.specs.Ranges.{offsets_partition}
use Rattle.kx_message.specs.contracts.code.ErrorCode.{the_type}
use Rattle.kx_message.specs.declared.code.ErrorCode.{ErrorCode}
use Rattle.kx_message.specs.declared.code.ErrorCode.TheVariants.{NoError}
use Rattle.kx_model.specs.PartitionNode.{on_add_reply}
use Rattle.kx_broker.proofs.offsets.OffsetsMachine.add_reply.Goals as goal

pub returns-then-ne-clause-ok : goal.returns-then-ne-clause-ok
returns-then-ne-clause-ok g c = λ p is.
    let other = not_not _ false (sym c.ne.ensures ∙ c.if-ne.true) in
    add_other p c.args.self.now is c.none.result c.args.it.now other c.none.ensures

pub returns-then-eq-clause-ok : goal.returns-then-eq-clause-ok
returns-then-eq-clause-ok g c = λ p is.
    let it = c.args.it.now in
    let own = not_not _ true (sym c.ne.ensures ∙ c.if-ne.false) in
    let code : it.code ≡ NoError =
    same_true the_type (search rules) it.code NoError (sym c.if-eq.ensures) in
    if_ok c.resume.result (c.resume.ensures.ok p is)
    (λ messages s. add_own p c.args.self.now c.resume.new.self messages it own
    (subst (λ (e : ErrorCode). Serves KeepsOffsets p c.args.self.now c.resume.new.self
    (λ store. on_add_reply offsets_partition p store it.held e) messages) (sym code) s))

pub returns-else-eq-clause-ok : goal.returns-else-eq-clause-ok
returns-else-eq-clause-ok g c = λ p is.
    let it = c.args.it.now in
    let own = not_not _ true (sym c.ne.ensures ∙ c.if-ne.false) in
    if_ok c.refuse_parked.result (c.refuse_parked.ensures.ok p is)
    (λ messages s. add_own p c.args.self.now c.refuse_parked.new.self messages it own s)
