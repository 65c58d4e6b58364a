use Rattle.std.proofs.Common.{Option, subst}
use Rattle.std.proofs.lemmas.Result.{on_ok_weaker}
use Rattle.kx_server_audit.specs.Contents.{IsOpened}
use Rattle.kx_server_audit.specs.Internal.{Found}
use Rattle.kx_server_audit.specs.declared.file.AuditFile.TheVariants as file
use Rattle.kx_trace_files.specs.Beginning.{begun_text}
use Rattle.kx_server_audit.proofs.Finding.{can_begin}
use Rattle.kx_server_audit.proofs.traces.find_trace.Goals as goal

pub returns-in-Some-clause-found : goal.returns-in-Some-clause-found
returns-in-Some-clause-found g c =
    let remaining = g.F.File.Read.remaining in
    let contents = g.F.ServerFiles.left c.args.files.now (file.Trace c.args.node.now) in
    let opened = subst (λ (o : Option _). IsOpened remaining contents o) c.in-Some.is
    c.in_ok-opened.ensures in
    on_ok_weaker c.add_trace.result
    (λ added. Found added.trace added.to added.node_is
    (can_begin remaining contents c.in-Some.opened (remaining added.to)
    (begun_text added.trace.node added.trace.opened) opened added.consumed) added.more)
    c.add_trace.ensures.added
