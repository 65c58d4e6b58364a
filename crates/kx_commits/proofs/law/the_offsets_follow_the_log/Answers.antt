use Rattle.kx_commits.proofs.Ending.{marker_stands}
use Rattle.kx_commits.proofs.Growing.{batch_stands, nothing_stands, plain_stands}
use Rattle.kx_commits.proofs.Reading.{committed_same, pending_same, pending_within}
use Rattle.kx_commits.proofs.law.the_offsets_follow_the_log.Goals as goal

pub returns-clause-empty : goal.returns-clause-empty
returns-clause-empty c = nothing_stands

pub returns-clause-plain : goal.returns-clause-plain
returns-clause-plain c = λ kept log records stands. plain_stands kept log records stands

pub returns-clause-batch : goal.returns-clause-batch
returns-clause-batch c = λ kept log verified batch stands next transactional.
    batch_stands kept log verified batch next transactional stands

pub returns-clause-marker : goal.returns-clause-marker
returns-clause-marker c = marker_stands

pub returns-clause-committed : goal.returns-clause-committed
returns-clause-committed c = λ kept log group partition stands.
    committed_same group partition kept log stands

pub returns-clause-pending : goal.returns-clause-pending
returns-clause-pending c = λ kept log group partition stands.
    pending_same group partition kept log stands

pub returns-clause-within : goal.returns-clause-within
returns-clause-within c = λ kept log group partition stands.
    pending_within group partition kept log stands
