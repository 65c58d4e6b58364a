use Rattle.kx_headline.proofs.OverSchedules.{nothing_commits_open}
use Rattle.kx_headline.proofs.nothing_fenced_commits_whoever_asks.Goals as goal

pub returns : goal.returns
returns c = nothing_commits_open
