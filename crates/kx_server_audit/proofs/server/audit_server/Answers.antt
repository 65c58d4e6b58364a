use Rattle.kx_server_audit.specs.Telling as telling
use Rattle.kx_server_audit.proofs.server.audit_server.Goals as goal

pub returns-in-Ok : goal.returns-in-Ok
returns-in-Ok g c = c.tell.ensures _ _ c.in-Ok.ensures

pub returns-in-Err : goal.returns-in-Err
returns-in-Err g c = telling.Fails _
