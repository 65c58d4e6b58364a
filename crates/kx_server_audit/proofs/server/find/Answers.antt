use Rattle.std.proofs.Common.{◌∙◌, IsTrue, List, rules, subst, sym}
use Rattle.kx_server_audit.specs.Denials.{IsNoAtOnce}
use Rattle.kx_server_audit.specs.Finding.{AreSeen, AreTraces, all_nodes}
use Rattle.kx_server_audit.specs.Internal.{HasBadLog}
use Rattle.kx_trace.specs.declared.node.TracedNode.{TracedNode}
use Rattle.kx_server_audit.proofs.Comparing.{if_no}
use Rattle.kx_server_audit.proofs.Finding.{bad_log, traces_noted}
use Rattle.kx_server_audit.proofs.server.find.Goals as goal

pub returns-in-Ok-clause-found : goal.returns-in-Ok-clause-found
returns-in-Ok-clause-found g c =
    let remaining = g.F.File.Read.remaining in
    let left = g.F.ServerFiles.left c.args.files.now in
    let of = c.in_ok-traces.traces.of.items in
    let new = c.note_logs.new.of.items in
    let sources = c.in_ok-traces.traces.sources.items in
    let found = subst (λ (ns : List TracedNode). AreTraces remaining left ns of sources)
    (c.as_slice.ensures.value ∙ c.in_ok-nodes.ensures) c.in_ok-traces.ensures.found in
    record {
      traces = traces_noted remaining left all_nodes of new sources c.in-Ok.ensures.heads found;
      logs = λ asked. subst (AreSeen left new)
          (c.as_slice-2.ensures.value ∙ c.in_ok-nodes.ensures) c.in-Ok.ensures.seen;
    }

pub returns-clause-no : goal.returns-clause-no
returns-clause-no g c =
    let remaining = g.F.File.Read.remaining in
    let left = g.F.ServerFiles.left c.args.files.now in
    let compares = c.args.compares_logs in
    let of = c.in_ok-traces.traces.of.items in
    let sources = c.in_ok-traces.traces.sources.items in
    let also = c.as_slice-2.result.now in
    let asked : IsTrue compares = search rules in
    let found = subst (λ (ns : List TracedNode). AreTraces remaining left ns of sources)
    (c.as_slice.ensures.value ∙ sym c.as_slice-2.ensures.value) c.in_ok-traces.ensures.found in
    if_no c.in-Err.stop (HasBadLog left also of) (IsNoAtOnce left compares)
    (λ d h. bad_log remaining left of sources also compares d asked found h) c.in-Err.ensures.no
