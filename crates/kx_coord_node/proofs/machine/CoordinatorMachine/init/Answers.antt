use Rattle.std.proofs.Common.{◌∙◌, ap, subst, sym}
use Rattle.kx_coord.specs.CoordinatorState.{CoordinatorState}
use Rattle.kx_message.specs.declared.message.Message.TheVariants as msg
use Rattle.kx_model.specs.Step.{Comes}
use Rattle.kx_coord_node.specs.Stands.{Takes}
use Rattle.kx_coord_node.proofs.Steps.{IsHeld}
use Rattle.kx_coord_node.proofs.Taking.{answered_so, takes_init}
use Rattle.kx_coord_node.proofs.machine.CoordinatorMachine.init.Goals as goal

pub returns : goal.returns
returns g c =
    let old = c.self.inside.coordinator in
    let new = c.init.new.self in
    let handed = c.in_ok-messages.messages in
    let holds = subst IsHeld (sym c.self.view_is) c.is_closed-was_closed.ensures.holds in
    let was = c.is_closed-was_closed.ensures.value
    ∙ ap (λ (s : CoordinatorState). s.log.closed) (sym c.self.view_is) in
    subst (λ (s : CoordinatorState).
    Takes (Comes (msg.InitProducerId c.args.request)) s new c.answer.result)
    c.self.view_is (takes_init old new c.args.request handed c.answer.result holds
    c.in_ok-messages.ensures.ok
    (answered_so old new handed c.is_closed-was_closed.result c.answer.result c.answer.ensures was))
