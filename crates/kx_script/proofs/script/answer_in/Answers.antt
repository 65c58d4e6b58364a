use Rattle.std.proofs.Common.{subst, sym}
use Rattle.std.specs.Prelude.{IsSome}
use Rattle.kx_script.specs.Command.{event_in}
use Rattle.kx_script.specs.Running.{IsRead, Means}
use Rattle.kx_script.specs.declared.event.EventAt.{EventAt}
use Rattle.kx_script.proofs.Answering.{is_event, is_lost, is_none}
use Rattle.kx_script.proofs.script.answer_in.Goals as goal

pub returns-in-Some-Ok : goal.returns-in-Some-Ok
returns-in-Some-Ok g c = λ s st.
    let read : IsRead s.system (event_in s c.args.line.now) c.in-Some-Ok.read =
    rw c.in-Some-Ok.field-0-is at (c.in-Some-Ok.ensures s st) in
    is_event _ s c.args.line.now read.event (g.W.Write.contents c.args.writer.now)
    (g.W.Write.contents c.happen-answered.new.writer) c.happen-answered.result read.is
    (c.happen-answered.ensures s st read.event
    (subst (λ (r : EventAt). Means s.system r read.event) (sym c.in-Some-Ok.read-is) read.means))

pub returns-in_ok-lose-in-Some-Err : goal.returns-in_ok-lose-in-Some-Err
returns-in_ok-lose-in-Some-Err g c = λ s st.
    let some : IsSome (event_in s c.args.line.now) =
    rw c.in-Some-Err.field-0-is at (c.in-Some-Err.ensures s st) in
    is_lost s c.args.line.now _ (g.W.Write.contents c.args.writer.now)
    (g.W.Write.contents c.lose.new.writer) some st c.in_ok-lose-in-Some-Err.ensures

pub returns-in-None : goal.returns-in-None
returns-in-None g c = λ s st.
    is_none _ s c.args.line.now (g.W.Write.contents c.args.writer.now)
    (g.W.Write.contents c.answer_order.new.writer) c.answer_order.result (c.in-None.ensures s st)
    (c.answer_order.ensures s st)
