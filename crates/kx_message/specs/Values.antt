-- Which value a number or a text of the wire stands for, if any.
use Rattle.std.specs.Prelude.{ℕ, zero, suc, ℤ, pos, negsuc, List, [], ◌∷◌, length, ◌+◌, Option}
use Rattle.std.specs.Prelude.{Some, None}
use Rattle.std.specs.Prelude.{Bool, true, false, nat_lt, ◌==◌, ◌&&◌, ◌||◌}
use Rattle.std.specs.List.{list_all, find}
use Rattle.kx_message.specs.Codes.{number_of}
use Rattle.kx_message.specs.Ranges.{data_partitions, offsets_partition, longest_name}
use Rattle.kx_message.specs.declared.code.ErrorCode.{ErrorCode}
use Rattle.kx_message.specs.declared.code.ErrorCode.TheVariants as code
use Rattle.kx_message.specs.declared.outcome.Outcome.{Outcome}
use Rattle.kx_message.specs.declared.outcome.Outcome.TheVariants.{Abort, Commit}
use Rattle.kx_message.specs.declared.message.Held.{Held}

-- the value if the test holds
abbrev pub where_true : {A : Type 0} → Bool → A → Option A
where_true false x = None
where_true true x = Some x

abbrev pub natural_with : ℤ → Option ℕ
natural_with (pos n) = Some n
natural_with (negsuc n) = None

abbrev pub is_partition : ℕ → Bool
is_partition n = nat_lt n data_partitions || n == offsets_partition

abbrev pub is_timeout : ℕ → Bool
is_timeout n = nat_lt 0 n && nat_lt n 900001

abbrev pub is_graphic : ℕ → Bool
is_graphic byte = nat_lt 32 byte && nat_lt byte 127

abbrev pub is_name : List ℕ → Bool
is_name name =
    (nat_lt 0 (length name) && nat_lt (length name) (longest_name + 1)) && list_all is_graphic name

abbrev pub is_offset_count : ℕ → Bool
is_offset_count n = nat_lt 0 n && nat_lt n 1001

abbrev pub partition_with : ℕ → Option ℕ
partition_with n = where_true (is_partition n) n

abbrev pub timeout_with : ℕ → Option ℕ
timeout_with n = where_true (is_timeout n) n

unfoldable pub name_with : List ℕ → Option (List ℕ)
name_with name = where_true (is_name name) name

abbrev pub all_codes : List ErrorCode
all_codes =
    code.NoError ∷ code.OffsetOutOfRange ∷ code.CorruptMessage ∷ code.UnknownTopicOrPartition
    ∷ code.MessageTooLarge ∷ code.IllegalGeneration ∷ code.UnknownMemberId
    ∷ code.OutOfOrderSequenceNumber ∷ code.InvalidProducerEpoch ∷ code.InvalidTxnState
    ∷ code.InvalidProducerIdMapping ∷ code.ConcurrentTransactions
    ∷ code.TransactionCoordinatorFenced ∷ code.KafkaStorageError
    ∷ code.UnsupportedCompressionType ∷ code.InvalidRecord ∷ code.UnstableOffsetCommit
    ∷ code.ProducerFenced ∷ []

-- the error code with this number
unfoldable pub code_with : ℤ → Option ErrorCode
code_with (pos n) = find (λ c. number_of c == n) all_codes
code_with (negsuc n) = None

abbrev pub outcome_with : ℕ → Option Outcome
outcome_with zero = Some Abort
outcome_with (suc zero) = Some Commit
outcome_with (suc (suc n)) = None

abbrev pub flag_with : ℕ → Option Bool
flag_with zero = Some false
flag_with (suc zero) = Some true
flag_with (suc (suc n)) = None

abbrev pub held_with : ℤ → ℤ → Option Held
held_with (pos id) (pos epoch) = Some (record { id = id; epoch = epoch })
held_with (pos id) (negsuc epoch) = None
held_with (negsuc id) epoch = None

-- both are -1 if there is none
abbrev pub optional_held_with : ℤ → ℤ → Option (Option Held)
optional_held_with (pos id) (pos epoch) = Some (Some (record { id = id; epoch = epoch }))
optional_held_with (negsuc zero) (negsuc zero) = Some None
optional_held_with (pos id) (negsuc epoch) = None
optional_held_with (negsuc zero) (pos epoch) = None
optional_held_with (negsuc zero) (negsuc (suc epoch)) = None
optional_held_with (negsuc (suc id)) epoch = None

-- the epoch of a marker is 1 or more
abbrev pub marker_with : Held → Option Held
marker_with held = where_true (nat_lt 0 held.epoch) held

abbrev pub offset_count_with : ℕ → Option ℕ
offset_count_with n = where_true (is_offset_count n) n
