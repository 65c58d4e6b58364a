-- The sequences of a client's records in a partition (KIP-98): 0 to 2^31 - 1, and then 0 again.
use Rattle.std.specs.Prelude.{ℕ, ℤ, pos, negsuc, ◌+◌, ◌-◌, ◌%◌, ◌<◌, Option, Some, None}

-- how many there are
abbrev pub sequences : ℕ
sequences = 2147483648

abbrev pub IsSequence : ℕ → Type 0
IsSequence n = n < sequences

abbrev pub sequence_in : ℤ → Option ℕ
sequence_in (pos n) = Some n
sequence_in (negsuc n) = None

-- the sequence after `count` records from `first` on
abbrev pub after : ℕ → ℕ → ℕ
after first count = (first + count) % sequences

-- how many records there are from `base` on up to `n`
abbrev pub since : ℕ → ℕ → ℕ
since base n = (n + sequences - base) % sequences
