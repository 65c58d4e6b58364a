use Rattle.kx_audit.proofs.Yes.{is_yes}
use Rattle.kx_audit.proofs.verdict.audit.Goals as goal

pub returns-clause-run : goal.returns-clause-run
returns-clause-run g c =
    is_yes g.B.Tells.making g.B.Machine.Machine.stands c.args.receipts.now
    c.systems_keep_promises.ensures c.find.result c.find.ensures.run
