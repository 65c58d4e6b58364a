-- The numbers of Kafka's error codes that the core never answers.
use Rattle.std.specs.Prelude.{ℕ}
use Rattle.kx_group_gateway.specs.declared.code.GroupCode.{GroupCode}
use Rattle.kx_group_gateway.specs.declared.code.GroupCode.TheVariants as code

-- Kafka protocol guide, "Error Codes"
abbrev pub number_of : GroupCode → ℕ
number_of code.CoordinatorNotAvailable = 15
number_of code.InvalidGroupId = 24
number_of code.InvalidCommitOffsetSize = 28
