use Rattle.kx_membership.proofs.Absent.{absent_after}
use Rattle.kx_membership.proofs.laws.those_gone_are_unknown.Goals as goal

pub returns-clause-stays : goal.returns-clause-stays
returns-clause-stays c = λ g steps number none nobody. absent_after g steps number none nobody
