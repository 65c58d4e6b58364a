use Rattle.std.proofs.Common.{refl}
use Rattle.kx_regrant.proofs.Found.{answered_again, none_only, read_again}
use Rattle.kx_regrant.proofs.laws.the_last_grant_is_read_again.Goals as goal

pub returns-clause-row : goal.returns-clause-row
returns-clause-row c = λ log later r new none. read_again log later r r.txn refl new none

pub returns-clause-answered : goal.returns-clause-answered
returns-clause-answered c = answered_again

pub returns-clause-none : goal.returns-clause-none
returns-clause-none c = none_only
