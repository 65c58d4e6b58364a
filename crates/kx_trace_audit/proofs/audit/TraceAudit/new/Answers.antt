use Rattle.std.proofs.Common.{[], List, subst, sym}
use Rattle.kx_follow.specs.Following.{Followed}
use Rattle.kx_trace_audit.specs.Auditing.{HasAudited}
use Rattle.kx_trace_audit.specs.Beginnings.{AreNodesOf, heads_of}
use Rattle.kx_trace_audit.specs.Readings.{Reading}
use Rattle.kx_trace_audit.proofs.Traces.{are_at, begins, not_apart}
use Rattle.kx_trace_audit.proofs.audit.TraceAudit.new.Goals as goal

pub returns-in-Ok : goal.returns-in-Ok
returns-in-Ok g c =
    let making = g.B.Tells.making in
    let stands = g.B.Machine.Machine.stands in
    let of = c.args.traces.now in
    let f = c.in-Ok.follower in
    let starts = c.in_ok-nodes.ensures.0 in
    let are = subst (λ (ns : List (Followed _ _)). AreNodesOf making stands of starts ns)
    (sym c.in-Ok.ensures.nodes) c.in_ok-nodes.ensures.1 in (
      starts,
      subst (λ (ts : List Reading). HasAudited making stands of starts (heads_of of) []
          (record { following = f; traces = ts })) (sym c.in_ok-traces.ensures)
          (begins making stands of starts f are
          (c.in-Ok.ensures.made starts (are_at making stands of starts f.nodes are))),
    )

pub returns-in-Err-DuplicateNode : goal.returns-in-Err-DuplicateNode
returns-in-Err-DuplicateNode g c =
    let nodes = c.in_ok-nodes.ensures in
    not_apart g.B.Tells.making g.B.Machine.Machine.stands c.args.traces.now nodes.0
    c.in_ok-nodes.nodes.items nodes.1 c.in-Err-DuplicateNode.ensures.err.1
