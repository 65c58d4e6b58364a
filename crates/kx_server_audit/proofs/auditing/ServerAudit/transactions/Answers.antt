use Rattle.kx_server_audit.proofs.Advancing.{decided_at, decided_nowhere}
use Rattle.kx_server_audit.proofs.auditing.ServerAudit.transactions.Goals as goal

pub returns-in-Some : goal.returns-in-Some
returns-in-Some c = decided_at c.args.self.now.audit.following.nodes c.in-Some.ensures.0
    c.in-Some.machine.now c.transactions.result c.in-Some.ensures.1 c.in-Some.ensures.2
    c.transactions.ensures

pub returns-in-None : goal.returns-in-None
returns-in-None c = decided_nowhere c.args.self.now.audit.following.nodes c.in-None.ensures
