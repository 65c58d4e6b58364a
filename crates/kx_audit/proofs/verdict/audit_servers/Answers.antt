use Rattle.kx_audit.proofs.Yes.{is_servers_yes}
use Rattle.kx_audit.proofs.verdict.audit_servers.Goals as goal

pub returns-clause-run : goal.returns-clause-run
returns-clause-run g c =
    is_servers_yes g.B.Tells.making g.B.Machine.Machine.stands c.args.receipts.now
    c.open_systems_keep_promises.ensures c.args.traces.items c.find.result c.find.ensures.traces
    c.find.ensures.run c.find.ensures.fit
