use Rattle.std.proofs.Common.{◌≡◌, ◌↔◌, Bool, true, false, cond}
use Rattle.std.specs.Prelude.{int_lt, pos}
use Rattle.kx_message.specs.declared.code.ErrorCode.{ErrorCode}
use Rattle.kx_message.specs.declared.code.ErrorCode.TheVariants as code
use Rattle.kx_grant.specs.Codes.{or_fenced}
use Rattle.kx_grant.specs.Grant.{end_fenced, init_fenced}
use Rattle.kx_grant.proofs.laws.zero_is_the_cores.Goals as goal

never_zero : (b : Bool) → cond b code.InvalidProducerEpoch code.ProducerFenced ≡ code.NoError → ⊥
never_zero true e = absurd cc
never_zero false e = absurd cc

zero : (fenced given : ErrorCode) → (fenced ≡ code.NoError → ⊥)
    → (or_fenced fenced given ≡ code.NoError) ↔ (given ≡ code.NoError)
zero fenced code.ProducerFenced never = ((λ e. absurd (never e)), (λ e. absurd cc))
zero fenced given never = ((λ e. e), (λ e. e))

pub returns-clause-init : goal.returns-clause-init
returns-clause-init c = λ version given.
    zero (init_fenced version) given (never_zero (int_lt version (pos 4)))

pub returns-clause-end : goal.returns-clause-end
returns-clause-end c = λ version given.
    zero (end_fenced version) given (never_zero (int_lt version (pos 2)))

pub returns-clause-produce : goal.returns-clause-produce
returns-clause-produce c = λ given.
    zero code.InvalidProducerEpoch given (λ never. absurd cc)
