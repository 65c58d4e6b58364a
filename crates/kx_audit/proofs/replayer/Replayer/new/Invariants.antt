use Rattle.kx_audit.specs.Making.{named, node_of}
use Rattle.kx_audit.specs.Replayed.{IsRunTo}
use Rattle.kx_audit.proofs.replayer.Replayer.new.Given as goal

abbrev pub invariant-loop-place : goal.invariant-loop-place
invariant-loop-place g l =
    let made = g.B.Tells.making l.fn.trace.made in
    IsRunTo g.B.Machine.Machine.stands (named made) (node_of made) l.fn.trace.steps l.place
    l.takens.items l.machine
