use Rattle.kx_membership.proofs.Staying.{asks_and_waits, assigned_to_all, heard_anew, stays}
use Rattle.kx_membership.proofs.Staying.{waits_no_more}
use Rattle.kx_membership.proofs.laws.members_that_wait_stay.Goals as goal

pub returns-clause-stays : goal.returns-clause-stays
returns-clause-stays c = stays

pub returns-clause-heard : goal.returns-clause-heard
returns-clause-heard c = heard_anew

pub returns-clause-asks : goal.returns-clause-asks
returns-clause-asks c = asks_and_waits

pub returns-clause-assigned : goal.returns-clause-assigned
returns-clause-assigned c = assigned_to_all

pub returns-clause-ended : goal.returns-clause-ended
returns-clause-ended c = waits_no_more
