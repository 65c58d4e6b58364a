-- The numbers of error codes (Kafka protocol guide, "Error Codes").
use Rattle.std.specs.Prelude.{ℕ}
use Rattle.kx_message.specs.Codes as core
use Rattle.kx_message.specs.declared.code.ErrorCode.{ErrorCode}
use Rattle.kx_message.specs.declared.code.ErrorCode.TheVariants as core_code
use Rattle.kx_gateway.specs.declared.code.GatewayCode.{GatewayCode}
use Rattle.kx_gateway.specs.declared.code.GatewayCode.TheVariants as code

abbrev pub number_of : GatewayCode → ℕ
number_of code.CoordinatorNotAvailable = 15
number_of code.InvalidTopic = 17
number_of code.InvalidRequiredAcks = 21
number_of code.UnsupportedVersion = 35
number_of code.InvalidRequest = 42
number_of code.InvalidTransactionTimeout = 50
number_of code.TransactionalIdAuthorizationFailed = 53

------ those of the core that the gateway answers itself

abbrev pub unknown_partition : ℕ
unknown_partition = 3

abbrev pub invalid_record : ℕ
invalid_record = 87

-- a coordinator whose log fails isn't there for now
abbrev pub coordinator_number : ErrorCode → ℕ
coordinator_number core_code.KafkaStorageError = number_of code.CoordinatorNotAvailable
coordinator_number other = core.number_of other
