use Rattle.kx_headline.proofs.OverSchedules.{nothing_commits}
use Rattle.kx_headline.proofs.nothing_fenced_commits.Goals as goal

pub returns : goal.returns
returns c = nothing_commits
