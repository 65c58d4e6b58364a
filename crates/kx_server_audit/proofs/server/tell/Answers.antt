use Rattle.std.proofs.Common.{subst}
use Rattle.kx_server_audit.specs.Telling.{IsFoundBy, TellsNo, TellsYes}
use Rattle.kx_server_audit.specs.Telling as telling
use Rattle.kx_server_audit.proofs.server.tell.Goals as goal

pub returns-in-None : goal.returns-in-None
returns-in-None g c = λ left compares are.
    let f = c.args.findings in
    let written = c.in-Ok.ensures in
    TellsYes f written.0 c.in-None.is (subst (λ d. IsFoundBy left compares f d) c.in-None.is are) written.1

pub returns-in-Some : goal.returns-in-Some
returns-in-Some g c = λ left compares are.
    let written = c.in-Ok.ensures in
    let f = c.args.findings in
    TellsNo f written.0 _ c.in-Some.is (subst (λ d. IsFoundBy left compares f d) c.in-Some.is are) written.1

pub returns-in-Err : goal.returns-in-Err
returns-in-Err g c = λ left compares are. telling.Fails _
