use Rattle.std.proofs.Common.{subst}
use Rattle.kx_server_audit.specs.Denials.{IfNo, IsNoAtOnce}
use Rattle.kx_server_audit.specs.declared.denial.Stop.{Stop}
use Rattle.kx_server_audit.proofs.Comparing.{found_at_once}
use Rattle.kx_server_audit.proofs.server.stopped_at_once.Goals as goal

pub returns-in-No : goal.returns-in-No
returns-in-No c = λ left compares denied.
    found_at_once left compares c.at_once.result c.in-No.denial c.at_once.ensures.denial
    (subst (λ (s : Stop). IfNo s (IsNoAtOnce left compares)) c.in-No.is denied)
    c.at_once.ensures.none
