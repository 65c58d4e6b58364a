use Rattle.std.specs.Vec.Iter.{into_iter_items, into_iter_len}
use Rattle.kx_audit.proofs.Begun.{AreBeginning}
use Rattle.kx_audit.proofs.replayer.replay_all.Given as goal

abbrev pub invariant-loop-trace : goal.invariant-loop-trace
invariant-loop-trace g l =
    ((goal.iterator-loop-trace g).can_next l.trace-iterator
    × (goal.iterator-loop-trace g).is_finite l.trace-iterator)
    × AreBeginning g.B.Tells.making g.B.Machine.Machine.stands l.fn.traces.items l.nodes.items
    (into_iter_items l.trace-iterator) (into_iter_len l.trace-iterator)
