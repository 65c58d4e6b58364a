use Rattle.std.proofs.Common.{◌∙◌, ap, subst, sym}
use Rattle.kx_coord.specs.Calls as calls
use Rattle.kx_coord.specs.CoordinatorState.{CoordinatorState}
use Rattle.kx_model.specs.Step.{Expires}
use Rattle.kx_coord_node.specs.Stands.{Takes}
use Rattle.kx_coord_node.proofs.Steps.{IsHeld}
use Rattle.kx_coord_node.proofs.Taking.{answered_so, takes_time}
use Rattle.kx_coord_node.proofs.machine.CoordinatorMachine.expire.Goals as goal

pub returns : goal.returns
returns g c =
    let old = c.self.inside.coordinator in
    let new = c.expire.new.self in
    let handed = c.from_vec.result in
    let holds = subst IsHeld (sym c.self.view_is) c.is_closed-was_closed.ensures.holds in
    let was = c.is_closed-was_closed.ensures.value
    ∙ ap (λ (s : CoordinatorState). s.log.closed) (sym c.self.view_is) in
    subst (λ (s : CoordinatorState). Takes (Expires c.args.now) s new c.answer.result)
    c.self.view_is (takes_time old new c.args.now handed c.answer.result holds
    (subst (calls.Expires old new c.args.now) (sym c.from_vec.ensures) c.in_ok-messages.ensures.ok)
    (answered_so old new handed c.is_closed-was_closed.result c.answer.result c.answer.ensures was))
