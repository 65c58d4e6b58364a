use Rattle.std.proofs.Common.{◌∙◌, ◌++◌, ◌∷◌, [], List, ap, subst, sym}
use Rattle.kx_core.specs.Sent.{joined}
use Rattle.kx_core.specs.World.{IsRun, Running}
use Rattle.kx_core.proofs.Running.{adds_step, promised, stepped}
use Rattle.kx_message.specs.declared.message.Message.{Message}
use Rattle.kx_pipeline.specs.OpenSystems.{open_system_step}
use Rattle.kx_core.proofs.world.World.happen.Goals as goal

pub invariant_of-self-2 : goal.invariant_of-self-2
invariant_of-self-2 g c =
    let C = g.C.Machine.stands in
    let P = g.P.Machine.stands in
    let O = g.O.Machine.stands in
    let image_of = g.F.Process.image_of in
    let s = c.self.invariant.0 in
    let run = c.self.invariant.1 in
    let taken = c.in_ok-taken.taken in
    let same = c.push.ensures ∙ ap (λ (steps : List (List Message)). steps ++ taken.messages ∷ [])
    c.reserve.ensures.steps in
    let step = stepped C P O image_of _ c.step.new.self c.arrived_after-self-inside.result s c.args.event.now
    taken run (c.fits.ensures s)
    (c.in_ok-taken.ensures s run.nodes (ap joined c.reserve.ensures.steps ∙ run.sent))
    c.arrived_after-self-inside.ensures c.push.new.self.steps same in
    ((open_system_step s step.happened).0, step.stands)

pub returns-clause-step : goal.returns-clause-step
returns-clause-step g c = λ s h.
    let C = g.C.Machine.stands in
    let P = g.P.Machine.stands in
    let O = g.O.Machine.stands in
    let image_of = g.F.Process.image_of in
    let run = subst (λ running. IsRun C P O image_of running s) (sym c.self.view_is) h in
    let taken = c.in_ok-taken.taken in
    let same = c.push.ensures ∙ ap (λ (steps : List (List Message)). steps ++ taken.messages ∷ [])
    c.reserve.ensures.steps in
    stepped C P O image_of _ c.step.new.self c.arrived_after-self-inside.result s c.args.event.now taken run
    (c.fits.ensures s)
    (c.in_ok-taken.ensures s run.nodes (ap joined c.reserve.ensures.steps ∙ run.sent))
    c.arrived_after-self-inside.ensures c.push.new.self.steps same

pub returns-clause-messages : goal.returns-clause-messages
returns-clause-messages g c = λ s h t is.
    let taken = c.in_ok-taken.taken in
    let same = c.push.ensures ∙ ap (λ (steps : List (List Message)). steps ++ taken.messages ∷ [])
    c.reserve.ensures.steps
    ∙ ap (λ (r : Running _ _ _ _). r.steps ++ taken.messages ∷ []) c.self.view_is in
    adds_step g.C.Machine.stands g.P.Machine.stands g.O.Machine.stands g.F.Process.image_of
    c.args.self.now _ s t taken.messages h is same

pub returns-clause-promises : goal.returns-clause-promises
returns-clause-promises g c = λ s h closed.
    promised g.C.Machine.stands g.P.Machine.stands g.O.Machine.stands g.F.Process.image_of
    c.systems_keep_promises.ensures _ s h closed

pub returns-in_err-reserve-clause-promises : goal.returns-in_err-reserve-clause-promises
returns-in_err-reserve-clause-promises g c = λ s h closed.
    promised g.C.Machine.stands g.P.Machine.stands g.O.Machine.stands g.F.Process.image_of
    c.systems_keep_promises.ensures _ s h closed

pub returns-in_err-taken-clause-promises : goal.returns-in_err-taken-clause-promises
returns-in_err-taken-clause-promises g c = λ s h closed.
    promised g.C.Machine.stands g.P.Machine.stands g.O.Machine.stands g.F.Process.image_of
    c.systems_keep_promises.ensures _ s h closed
