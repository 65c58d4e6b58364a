use Rattle.std.proofs.Common.{◌≡◌, ◌++◌, ◌∷◌, ◌∙◌, [], ℕ, List, ap, append_assoc, arith, length, subst}
use Rattle.std.proofs.Common.{sym, take}
use Rattle.std.proofs.Math.Seq.{take-length}
use Rattle.std.proofs.lemmas.List.{append-nil, take_more}
use Rattle.kx_server_audit.specs.Finding.{AreTraces}
use Rattle.kx_trace.specs.declared.node.TracedNode.{TracedNode}
use Rattle.kx_server_audit.proofs.Finding.{one_found}
use Rattle.kx_server_audit.proofs.traces.find_traces.Goals as goal

pub loop-node-init : goal.loop-node-init
loop-node-init g c = λ others are.
    subst (λ (ns : List TracedNode). AreTraces g.F.File.Read.remaining
    (g.F.ServerFiles.left c.args.files.now) ns c.args.traces.now.of.items
    c.args.traces.now.sources.items) (sym (append-nil others)) are

pub loop-node-preserved : goal.loop-node-preserved
loop-node-preserved g c = λ others are.
    let remaining = g.F.File.Read.remaining in
    let left = g.F.ServerFiles.left c.args.files.now in
    let nodes = c.args.nodes.now in
    let i = c.loop-node.node-index in
    let node = c.node-item.result in
    subst (λ (ns : List TracedNode). AreTraces remaining left ns c.find_trace.new.traces.of.items
    c.find_trace.new.traces.sources.items)
    (append_assoc others (take i nodes) (node ∷ [])
    ∙ ap (λ (ns : List TracedNode). others ++ ns)
    (ap (λ (x : TracedNode). take i nodes ++ x ∷ []) c.node-item.is
    ∙ sym (take_more nodes i node (omega (arith, c.loop-node-test.true)))))
    (one_found remaining left (others ++ take i nodes) node c.loop-node.traces.of.items
    c.loop-node.traces.sources.items c.find_trace.new.traces.of.items
    c.find_trace.new.traces.sources.items (c.loop-node.invariant others are)
    c.in_ok-find_trace.ensures.found)

pub returns-clause-found : goal.returns-clause-found
returns-clause-found g c = λ others are.
    let remaining = g.F.File.Read.remaining in
    let left = g.F.ServerFiles.left c.args.files.now in
    let nodes = c.args.nodes.now in
    let all : c.loop-node.node-index ≡ length nodes =
    omega (arith, c.loop-node-test.false, c.loop-node.auto.node-index-end) in
    subst (λ (ns : List TracedNode). AreTraces remaining left ns c.loop-node.traces.of.items
    c.loop-node.traces.sources.items)
    (ap (λ (i : ℕ). others ++ take i nodes) all
    ∙ ap (λ (ns : List TracedNode). others ++ ns) (take-length nodes))
    (c.loop-node.invariant others are)
