use Rattle.std.proofs.Common.{◌∙◌, ap}
use Rattle.kx_coord.specs.CoordinatorState.{CoordinatorState}
use Rattle.kx_model.specs.Markers.{remind}
use Rattle.kx_coord_node.proofs.Taking.{answered_so, takes_reminder}
use Rattle.kx_coord_node.proofs.machine.CoordinatorMachine.remind.Goals as goal

pub returns : goal.returns
returns g c =
    let old = c.args.self.now in
    let handed = c.from_vec.result in
    let handed_is = c.from_vec.ensures ∙ c.in_ok-messages.ensures.ok
    ∙ ap (λ (s : CoordinatorState). remind s.log.notes s.answered) c.self.view_is in
    takes_reminder old handed c.answer.result handed_is
    (answered_so old old handed c.is_closed-was_closed.result c.answer.result c.answer.ensures
    c.is_closed-was_closed.ensures.value)
