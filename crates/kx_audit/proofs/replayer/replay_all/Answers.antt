use Rattle.std.specs.Vec.Iter.{into_iter_items, into_iter_len}
use Rattle.kx_audit.proofs.Begun.{begins_more, have_begun}
use Rattle.kx_audit.proofs.replayer.replay_all.Goals as goal

pub loop-trace-preserved : goal.loop-trace-preserved
loop-trace-preserved g c =
    let old = c.loop-trace.trace-iterator in
    let new = c.next.new.self in
    let next = c.in-Some.ensures.steps in
    let more = begins_more g.B.Tells.making g.B.Machine.Machine.stands c.args.traces.items
    c.loop-trace.nodes.items (into_iter_items old) (into_iter_items new) (into_iter_len old)
    (into_iter_len new) c.in-Some.trace c.in_ok-new.field-0 c.loop-trace.invariant.1 next.0 next.1
    c.in_ok-new.ensures in
    ((tt, tt), rw c.in_ok-push.ensures.items more)

pub returns : goal.returns
returns g c =
    let last = c.loop-trace.trace-iterator in
    have_begun g.B.Tells.making g.B.Machine.Machine.stands c.args.traces.items
    c.loop-trace.nodes.items (into_iter_items last) (into_iter_len last) c.loop-trace.invariant.1
    c.in-None.ensures.steps.0
