use Rattle.kx_group.proofs.Unverified.{begins_at_0}
use Rattle.kx_group.proofs.law.unverified_commits_begin_at_0.Goals as goal

pub returns : goal.returns
returns c = begins_at_0
