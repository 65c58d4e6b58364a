use Rattle.kx_audit.proofs.Turning.{merging_starts}
use Rattle.kx_audit.proofs.auditor.Auditor.start.Goals as goal

pub invariant_of-result : goal.invariant_of-result
invariant_of-result g c =
    rw c.new.ensures.items (merging_starts g.B.Tells.making g.B.Machine.Machine.stands
    c.args.clients c.args.nodes.items c.args.arrived c.requires.arrived c.requires.fresh
    c.requires.replayed c.requires.apart)
