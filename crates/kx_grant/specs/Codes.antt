-- The codes that responses have for the core's.
use Rattle.std.specs.Prelude.{ℤ, Bool, true, false}
use Rattle.kx_message.specs.declared.code.ErrorCode.{ErrorCode}
use Rattle.kx_message.specs.declared.code.ErrorCode.TheVariants as code
use Rattle.kx_grant.specs.Grant.{end_fenced, init_fenced}

-- the core's code, with another in place of 90
abbrev pub or_fenced : ErrorCode → ErrorCode → ErrorCode
or_fenced fenced code.ProducerFenced = fenced
or_fenced fenced other = other

abbrev pub init_code : ℤ → ErrorCode → ErrorCode
init_code version given = or_fenced (init_fenced version) given

abbrev pub end_code : ℤ → ErrorCode → ErrorCode
end_code version given = or_fenced (end_fenced version) given

abbrev pub produce_code : ErrorCode → ErrorCode
produce_code given = or_fenced code.InvalidProducerEpoch given

-- the batch was refused, and clients don't send it again
abbrev pub is_final : ErrorCode → Bool
is_final code.NoError = false
is_final code.CorruptMessage = false
is_final code.UnknownTopicOrPartition = false
is_final code.ConcurrentTransactions = false
is_final code.KafkaStorageError = false
is_final code.UnstableOffsetCommit = false
is_final other = true
