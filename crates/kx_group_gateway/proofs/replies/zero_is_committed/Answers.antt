use Rattle.std.proofs.Common.{◌≡◌, ◌↔◌, Option, Some, None, refl}
use Rattle.kx_message.specs.declared.code.ErrorCode.{ErrorCode}
use Rattle.kx_message.specs.declared.code.ErrorCode.TheVariants as code
use Rattle.kx_group_gateway.specs.Replies.{alone_code}
use Rattle.kx_group_gateway.proofs.replies.zero_is_committed.Goals as goal

zero : (offsets : ErrorCode) (end : Option ErrorCode) → (alone_code offsets end ≡ 0)
    ↔ ((offsets ≡ code.NoError) × (end ≡ Some code.NoError))
zero code.NoError (Some code.NoError) = ((λ e. (refl, refl)), (λ e. refl))
zero code.NoError (Some other) = ((λ e. absurd cc), (λ e. absurd cc))
zero code.NoError None = ((λ e. absurd cc), (λ e. absurd cc))
zero code.IllegalGeneration end = ((λ e. absurd cc), (λ e. absurd cc))
zero code.UnknownMemberId end = ((λ e. absurd cc), (λ e. absurd cc))
zero other end = ((λ e. absurd cc), (λ e. absurd cc))

pub returns : goal.returns
returns c = zero
