use Rattle.kx_membership.specs.Steps.{after_step}
use Rattle.kx_membership.proofs.Stepping.{did, generation_by, members_by, settled_by}
use Rattle.kx_membership.proofs.laws.generations_are_settled.Goals as goal

pub returns-clause-generation : goal.returns-clause-generation
returns-clause-generation c = λ g step. generation_by g step (after_step g step) (did g step)

pub returns-clause-members : goal.returns-clause-members
returns-clause-members c = λ g step settled.
    members_by g step (after_step g step) (did g step) settled

pub returns-clause-settled : goal.returns-clause-settled
returns-clause-settled c = λ g step settled.
    settled_by g step (after_step g step) (did g step) settled
