-- The numbers and names of outcomes and of error codes.
use Rattle.std.specs.Prelude.{◌≡◌, ◌≢◌, ℕ, ℤ, pos, List, codes, Result, MatchResult}
use Rattle.kx_message.specs.declared.fault.ValueFault.{ValueFault}
use Rattle.kx_message.specs.declared.fault.ValueFault.TheVariants as fault
use Rattle.kx_message.specs.declared.outcome.Outcome.{Outcome}
use Rattle.kx_message.specs.declared.outcome.Outcome.TheVariants.{Abort, Commit}
use Rattle.kx_message.specs.declared.code.ErrorCode.{ErrorCode}
use Rattle.kx_message.specs.declared.code.ErrorCode.TheVariants as code

-- the byte that stands for an outcome
abbrev pub outcome_byte : Outcome → ℕ
outcome_byte Abort = 0
outcome_byte Commit = 1

-- the word that scripts read and print for an outcome
abbrev pub outcome_text : Outcome → List ℕ
outcome_text Abort = codes "abort"
outcome_text Commit = codes "commit"

-- the result is the outcome with this byte, or the fault if no outcome has it
abbrev pub IsOutcomeOfByte : ℕ → Result Outcome ValueFault → Type 0
IsOutcomeOfByte byte r = MatchResult r (λ outcome. outcome_byte outcome ≡ byte)
    (λ e. ((outcome : Outcome) → outcome_byte outcome ≢ byte) × (e ≡ fault.Outcome))

-- the result is the outcome with this word, or the fault if no outcome has it
abbrev pub IsOutcomeOfText : List ℕ → Result Outcome ValueFault → Type 0
IsOutcomeOfText text r = MatchResult r (λ outcome. outcome_text outcome ≡ text)
    (λ e. ((outcome : Outcome) → outcome_text outcome ≢ text) × (e ≡ fault.Outcome))

-- the number of an error code in the protocol
abbrev pub number_of : ErrorCode → ℕ
number_of code.NoError = 0
number_of code.OffsetOutOfRange = 1
number_of code.CorruptMessage = 2
number_of code.UnknownTopicOrPartition = 3
number_of code.MessageTooLarge = 10
number_of code.IllegalGeneration = 22
number_of code.UnknownMemberId = 25
number_of code.OutOfOrderSequenceNumber = 45
number_of code.InvalidProducerEpoch = 47
number_of code.InvalidTxnState = 48
number_of code.InvalidProducerIdMapping = 49
number_of code.ConcurrentTransactions = 51
number_of code.TransactionCoordinatorFenced = 52
number_of code.KafkaStorageError = 56
number_of code.UnsupportedCompressionType = 76
number_of code.InvalidRecord = 87
number_of code.UnstableOffsetCommit = 88
number_of code.ProducerFenced = 90

-- the name of an error code in the protocol
abbrev pub name_of : ErrorCode → List ℕ
name_of code.NoError = codes "NONE"
name_of code.OffsetOutOfRange = codes "OFFSET_OUT_OF_RANGE"
name_of code.CorruptMessage = codes "CORRUPT_MESSAGE"
name_of code.UnknownTopicOrPartition = codes "UNKNOWN_TOPIC_OR_PARTITION"
name_of code.MessageTooLarge = codes "MESSAGE_TOO_LARGE"
name_of code.IllegalGeneration = codes "ILLEGAL_GENERATION"
name_of code.UnknownMemberId = codes "UNKNOWN_MEMBER_ID"
name_of code.OutOfOrderSequenceNumber = codes "OUT_OF_ORDER_SEQUENCE_NUMBER"
name_of code.InvalidProducerEpoch = codes "INVALID_PRODUCER_EPOCH"
name_of code.InvalidTxnState = codes "INVALID_TXN_STATE"
name_of code.InvalidProducerIdMapping = codes "INVALID_PRODUCER_ID_MAPPING"
name_of code.ConcurrentTransactions = codes "CONCURRENT_TRANSACTIONS"
name_of code.TransactionCoordinatorFenced = codes "TRANSACTION_COORDINATOR_FENCED"
name_of code.KafkaStorageError = codes "KAFKA_STORAGE_ERROR"
name_of code.UnsupportedCompressionType = codes "UNSUPPORTED_COMPRESSION_TYPE"
name_of code.InvalidRecord = codes "INVALID_RECORD"
name_of code.UnstableOffsetCommit = codes "UNSTABLE_OFFSET_COMMIT"
name_of code.ProducerFenced = codes "PRODUCER_FENCED"

-- the result is the error code with this number, or the fault if none has it
abbrev pub IsCodeOfNumber : ℤ → Result ErrorCode ValueFault → Type 0
IsCodeOfNumber z r = MatchResult r (λ code. pos (number_of code) ≡ z)
    (λ e. ((code : ErrorCode) → pos (number_of code) ≢ z) × (e ≡ fault.ErrorCode))
