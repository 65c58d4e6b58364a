use Rattle.kx_group.proofs.Following.{change_follows, marker_follows, nothing_follows}
use Rattle.kx_group.proofs.Following.{offsets_follow, stored_change_follows}
use Rattle.kx_group.proofs.Following.{stored_commit_follows, stored_marker_follows}
use Rattle.kx_group.proofs.law.groups_follow_their_log.Goals as goal

pub returns-clause-empty : goal.returns-clause-empty
returns-clause-empty c = nothing_follows

pub returns-clause-read_change : goal.returns-clause-read_change
returns-clause-read_change c = change_follows

pub returns-clause-read_offsets : goal.returns-clause-read_offsets
returns-clause-read_offsets c = offsets_follow

pub returns-clause-read_marker : goal.returns-clause-read_marker
returns-clause-read_marker c = marker_follows

pub returns-clause-change : goal.returns-clause-change
returns-clause-change c = stored_change_follows

pub returns-clause-commit : goal.returns-clause-commit
returns-clause-commit c = stored_commit_follows

pub returns-clause-marker : goal.returns-clause-marker
returns-clause-marker c = stored_marker_follows
