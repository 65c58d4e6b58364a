use Rattle.std.proofs.Common.{[], List, subst, sym}
use Rattle.kx_server_audit.specs.Finding.{AreTraces}
use Rattle.kx_server_audit.specs.declared.sources.Source.{Source}
use Rattle.kx_trace_audit.specs.declared.servers.TraceOf.{TraceOf}
use Rattle.kx_server_audit.proofs.Finding.{none_found}
use Rattle.kx_server_audit.proofs.traces.traces_of.Goals as goal

pub returns-in-Ok-clause-found : goal.returns-in-Ok-clause-found
returns-in-Ok-clause-found g c =
    let remaining = g.F.File.Read.remaining in
    let left = g.F.ServerFiles.left c.args.files.now in
    c.in-Ok.ensures.found []
    (subst (λ (ts : List TraceOf). AreTraces remaining left [] ts c.new-2.result.items)
    (sym c.new.ensures.items)
    (subst (λ (ss : List (Source _)). AreTraces remaining left [] [] ss) (sym c.new-2.ensures.items)
    (none_found remaining left)))
