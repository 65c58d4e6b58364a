use Rattle.kx_grant.proofs.Known.{begun_is, reopened_is, step_is}
use Rattle.kx_grant.proofs.laws.grants_know_sequences.Goals as goal

pub returns-clause-begun : goal.returns-clause-begun
returns-clause-begun c = begun_is

pub returns-clause-reopened : goal.returns-clause-reopened
returns-clause-reopened c = reopened_is

pub returns-clause-kept : goal.returns-clause-kept
returns-clause-kept c = step_is
