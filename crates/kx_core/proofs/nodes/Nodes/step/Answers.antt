use Rattle.std.proofs.Common.{◌∙◌, ◌∷◌, [], List, ap, refl, subst, sym}
use Rattle.std.specs.Prelude.{slice_get}
use Rattle.kx_core.specs.World.{Occurs, StandForAll}
use Rattle.kx_core.proofs.Happening.{is_arrived, is_delivered, is_handed, is_made, makes_client}
use Rattle.kx_core.proofs.Happening.{makes_processor, not_delivered, not_handed}
use Rattle.kx_core.proofs.Happening.{request_arrived}
use Rattle.kx_core.proofs.Standing.{matched}
use Rattle.kx_machine.specs.declared.taken.Taken.{Taken}
use Rattle.kx_message.specs.declared.message.Message.{Message}
use Rattle.kx_core.specs.declared.event.Event.TheVariants as event
use Rattle.kx_model.specs.World.{Make}
use Rattle.kx_system.specs.System.{Happens, MakeProcessor}
use Rattle.kx_core.proofs.nodes.Nodes.step.Goals as goal

pub returns-in_ok-make-in-Make : goal.returns-in_ok-make-in-Make
returns-in_ok-make-in-Make g c = λ s h sent.
    let image_of = g.F.Process.image_of in
    let Stand = StandForAll g.C.Machine.stands g.P.Machine.stands g.O.Machine.stands image_of
    c.make.new.self in
    let it = c.in-Make in
    subst (λ event. Occurs image_of s event Stand c.nothing.result) (sym it.is)
    (is_made image_of Stand s c.nothing.result (event.Make it.client it.txn it.timeout)
    (Happens (Make it.client it.txn it.timeout)) refl (makes_client s it.client it.txn it.timeout)
    (c.in_ok-make-in-Make.ensures s h) (ap (λ (t : Taken). t.messages) c.nothing.ensures)
    (ap (λ (t : Taken). t.note) c.nothing.ensures)
    (ap (λ (t : Taken). t.failed) c.nothing.ensures))

pub returns-in_ok-make_processor-in-MakeProcessor :
    goal.returns-in_ok-make_processor-in-MakeProcessor
returns-in_ok-make_processor-in-MakeProcessor g c = λ s h sent.
    let image_of = g.F.Process.image_of in
    let Stand = StandForAll g.C.Machine.stands g.P.Machine.stands g.O.Machine.stands image_of
    c.make_processor.new.self in
    let it = c.in-MakeProcessor in
    let taken = c.nothing-in-MakeProcessor in
    subst (λ event. Occurs image_of s event Stand taken.result) (sym it.is)
    (is_made image_of Stand s taken.result
    (event.MakeProcessor it.client it.txn it.timeout it.group it.inputs it.process)
    (MakeProcessor it.client it.txn it.timeout it.group it.inputs (image_of it.process)) refl
    (makes_processor s it.client it.txn it.timeout it.group it.inputs (image_of it.process))
    (c.in_ok-make_processor-in-MakeProcessor.ensures s h)
    (ap (λ (t : Taken). t.messages) taken.ensures)
    (ap (λ (t : Taken). t.note) taken.ensures)
    (ap (λ (t : Taken). t.failed) taken.ensures))

pub returns-in-Some : goal.returns-in-Some
returns-in-Some g c = λ s h sent.
    let image_of = g.F.Process.image_of in
    let Stand = StandForAll g.C.Machine.stands g.P.Machine.stands g.O.Machine.stands image_of
    c.hand.new.self in
    let number = c.in-Deliver.number in
    matched c.hand.result (c.hand.ensures s h)
    (λ taken t. subst (λ event. Occurs image_of s event Stand taken) (sym c.in-Deliver.is)
    (is_delivered image_of Stand s taken number c.in-Deliver.to c.in-Deliver.store
    c.in-Some.message.now
    (ap (λ (ms : List Message). slice_get ms number) (sym sent) ∙ sym c.in-Some.ensures) t))
    (λ refused stand. stand)

pub returns-in-None : goal.returns-in-None
returns-in-None g c = λ s h sent.
    let image_of = g.F.Process.image_of in
    let Stand = StandForAll g.C.Machine.stands g.P.Machine.stands g.O.Machine.stands image_of
    c.args.self.now in
    let number = c.in-Deliver.number in
    subst (λ event. Occurs image_of s event Stand c.nothing-in-None.result) (sym c.in-Deliver.is)
    (not_delivered image_of Stand s c.nothing-in-None.result h
    (ap (λ (t : Taken). t.messages) c.nothing-in-None.ensures)
    (ap (λ (t : Taken). t.note) c.nothing-in-None.ensures)
    (ap (λ (t : Taken). t.failed) c.nothing-in-None.ensures) number c.in-Deliver.to
    c.in-Deliver.store
    (ap (λ (ms : List Message). slice_get ms number) (sym sent) ∙ sym c.in-None.ensures))

pub returns-then-is_message : goal.returns-then-is_message
returns-then-is_message g c = λ s h sent.
    let image_of = g.F.Process.image_of in
    let Stand = StandForAll g.C.Machine.stands g.P.Machine.stands g.O.Machine.stands image_of
    c.args.self.now in
    let taken = c.nothing-then-is_message.result in
    let comes = sym c.is_message.ensures ∙ c.if-is_message.true in
    subst (λ event. Occurs image_of s event Stand taken) (sym c.in-Hand.is)
    (not_handed image_of Stand s taken h
    (ap (λ (t : Taken). t.messages) c.nothing-then-is_message.ensures)
    (ap (λ (t : Taken). t.note) c.nothing-then-is_message.ensures)
    (ap (λ (t : Taken). t.failed) c.nothing-then-is_message.ensures) c.in-Hand.to c.in-Hand.input
    c.in-Hand.store comes)

pub returns-else-is_message : goal.returns-else-is_message
returns-else-is_message g c = λ s h sent.
    let image_of = g.F.Process.image_of in
    let Stand = StandForAll g.C.Machine.stands g.P.Machine.stands g.O.Machine.stands image_of
    c.hand-in-Hand.new.self in
    let other = sym c.is_message.ensures ∙ c.if-is_message.false in
    matched c.hand-in-Hand.result (c.hand-in-Hand.ensures s h)
    (λ taken t. subst (λ event. Occurs image_of s event Stand taken) (sym c.in-Hand.is)
    (is_handed image_of Stand s taken c.in-Hand.to c.in-Hand.input c.in-Hand.store other t))
    (λ refused stand. stand)

pub returns-in_ok-message-in-Arrive : goal.returns-in_ok-message-in-Arrive
returns-in_ok-message-in-Arrive g c = λ s h sent.
    let C = g.C.Machine.stands in
    let P = g.P.Machine.stands in
    let O = g.O.Machine.stands in
    let image_of = g.F.Process.image_of in
    let Stand = StandForAll C P O image_of c.args.self.now in
    let taken = c.arrived.result in
    let request = c.in-Arrive.request in
    subst (λ event. Occurs image_of s event Stand taken) (sym c.in-Arrive.is)
    (is_arrived image_of Stand s taken request (request_arrived C P O image_of _ s request h)
    (ap (λ (t : Taken). t.messages) c.arrived.ensures
    ∙ ap (λ (m : Message). m ∷ []) c.in_ok-message-in-Arrive.ensures)
    (ap (λ (t : Taken). t.note) c.arrived.ensures)
    (ap (λ (t : Taken). t.failed) c.arrived.ensures))
