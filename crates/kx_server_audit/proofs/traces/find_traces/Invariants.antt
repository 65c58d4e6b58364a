use Rattle.std.proofs.Common.{◌++◌, List, take}
use Rattle.kx_server_audit.specs.Finding.{AreTraces}
use Rattle.kx_trace.specs.declared.node.TracedNode.{TracedNode}
use Rattle.kx_server_audit.proofs.traces.find_traces.Given as goal

abbrev pub invariant-loop-node : goal.invariant-loop-node
invariant-loop-node g l = (others : List TracedNode)
    → AreTraces g.F.File.Read.remaining (g.F.ServerFiles.left l.files) others
    l.fn.traces.of.items l.fn.traces.sources.items
    → AreTraces g.F.File.Read.remaining (g.F.ServerFiles.left l.files)
    (others ++ take l.node-index l.nodes) l.traces.of.items l.traces.sources.items
