use Rattle.kx_grant.proofs.Older.{newest_heard, not_heard}
use Rattle.kx_grant.proofs.laws.older_connections_are_not_heard.Goals as goal

pub returns-clause-newest : goal.returns-clause-newest
returns-clause-newest c = newest_heard

pub returns-clause-older : goal.returns-clause-older
returns-clause-older c = not_heard
