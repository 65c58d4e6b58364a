use Rattle.std.proofs.Common.{◌∙◌, ap, subst, sym}
use Rattle.kx_coord.specs.CoordinatorState.{CoordinatorState}
use Rattle.kx_coord.specs.Internal.Answers.{IsAnswer, IsResponse}
use Rattle.kx_coord.specs.Internal.Drafts.{note_drafted}
use Rattle.kx_coord.specs.declared.answer.Answer.{Answer}
use Rattle.kx_coord.proofs.Responding.{closed}
use Rattle.kx_coord.proofs.coordinator.Coordinator.response.Goals as goal

pub returns-then-is_closed-clause-ok : goal.returns-then-is_closed-clause-ok
returns-then-is_closed-clause-ok g c = λ a is.
    let shut = sym (ap (λ (s : CoordinatorState). s.log.closed) c.self.view_is)
    ∙ sym c.is_closed.ensures ∙ c.if-is_closed.true in
    subst (IsResponse c.args.self.now a) (sym c.unwritten-then-is_closed.ensures)
    (closed c.args.self.now a (note_drafted c.in-Writes.entry) c.in-Writes.code c.in-Writes.held
    (subst (λ (x : Answer). IsAnswer x a) c.in-Writes.is is) shut)
