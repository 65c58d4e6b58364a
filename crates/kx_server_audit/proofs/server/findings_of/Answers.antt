use Rattle.kx_server_audit.proofs.server.findings_of.Goals as goal

pub returns-in-Ok : goal.returns-in-Ok
returns-in-Ok g c = c.audit_found.ensures c.in-Ok.ensures.found

pub returns-in-Err : goal.returns-in-Err
returns-in-Err g c = c.stopped_at_once.ensures (g.F.ServerFiles.left c.args.files.now)
    c.args.options.compares_logs c.in-Err.ensures.no
