use Rattle.kx_group.proofs.Growing.{all_in_transactions, never_unfit, with_change, with_commit}
use Rattle.kx_group.proofs.Growing.{with_marker}
use Rattle.kx_group.proofs.law.reopened_groups_are_as_before.Goals as goal

pub returns-clause-unfit : goal.returns-clause-unfit
returns-clause-unfit c = never_unfit

pub returns-clause-change : goal.returns-clause-change
returns-clause-change c = with_change

pub returns-clause-commit : goal.returns-clause-commit
returns-clause-commit c = with_commit

pub returns-clause-marker : goal.returns-clause-marker
returns-clause-marker c = with_marker

pub returns-clause-in_transactions : goal.returns-clause-in_transactions
returns-clause-in_transactions c = all_in_transactions
