use Rattle.kx_grant.proofs.Rises.{never_falls, rises_at_grants}
use Rattle.kx_grant.proofs.laws.a_fenced_producer_sends_nothing.Goals as goal

pub returns-clause-stays : goal.returns-clause-stays
returns-clause-stays c = λ g steps h r. never_falls steps g h r

pub returns-clause-raised : goal.returns-clause-raised
returns-clause-raised c = λ g steps h r e. rises_at_grants steps g e h r
