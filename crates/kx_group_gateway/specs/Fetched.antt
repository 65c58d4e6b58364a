-- How a group's committed offset is answered.
use Rattle.std.specs.Prelude.{ℤ, pos, negsuc, [], Some}
use Rattle.kx_kafka_types.specs.Schema.{Values}
use Rattle.kx_kafka.specs.Layouts.{offset_fetch_partition}
use Rattle.kx_message.specs.Codes.{number_of}
use Rattle.kx_message.specs.declared.code.ErrorCode.{ErrorCode}
use Rattle.kx_message.specs.declared.code.ErrorCode.TheVariants as code

-- no offset where the core refused
abbrev pub committed_in : ErrorCode → ℤ → ℤ
committed_in code.NoError offset = offset
committed_in other offset = negsuc 0

-- no leader's epoch, and no metadata
abbrev pub fetched_offset : ℤ → ErrorCode → ℤ → Values offset_fetch_partition
fetched_offset index given offset =
    (index, (committed_in given offset, (negsuc 0, (Some [], (pos (number_of given), tt)))))
