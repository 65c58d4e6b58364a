-- What the core's replies mean for a group.
use Rattle.std.specs.Prelude.{ℕ, ℤ, Option, Some, None}
use Rattle.kx_message.specs.declared.code.ErrorCode.{ErrorCode}
use Rattle.kx_message.specs.declared.code.ErrorCode.TheVariants as code
use Rattle.kx_group_gateway.specs.Codes.{number_of}
use Rattle.kx_group_gateway.specs.declared.code.GroupCode.TheVariants as group

abbrev pub generation_in : ErrorCode → ℤ → Option ℤ
generation_in code.NoError generation = Some generation
generation_in other generation = None

-- the code of an end that was answered, or not asked for
abbrev pub ended_code : Option ErrorCode → ℕ
ended_code (Some code.NoError) = 0
ended_code (Some other) = number_of group.CoordinatorNotAvailable
ended_code None = number_of group.CoordinatorNotAvailable

abbrev pub alone_code : ErrorCode → Option ErrorCode → ℕ
alone_code code.NoError end = ended_code end
alone_code code.IllegalGeneration end = 22
alone_code code.UnknownMemberId end = 25
alone_code other end = number_of group.CoordinatorNotAvailable
