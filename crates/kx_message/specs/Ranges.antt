-- Which numbers and texts the types of this crate hold, and how they print.
use Rattle.std.specs.Prelude.{◌≡◌, ℕ, ◌^◌, ◌<◌, ◌≤◌, ◌⊎◌, List, length, All, codes, decimal}
use Rattle.std.specs.Prelude.{if◌then◌else◌, ◌==◌}
use Rattle.std.specs.Char.{IsAsciiGraphic}

-- a producer id is what an i64 holds from 0 on
abbrev pub IsProducerId : ℕ → Type 0
IsProducerId n = n < 2 ^ 63

-- an epoch is what an i16 holds from 0 on
abbrev pub IsEpoch : ℕ → Type 0
IsEpoch n = n < 2 ^ 15

-- the last epoch that a producer holds
abbrev pub last_epoch : ℕ
last_epoch = 32766

-- the epoch of the marker that ends an id's last transaction, and of no producer
abbrev pub spent_epoch : ℕ
spent_epoch = 32767

-- how many data partitions there are, numbered from 0
abbrev pub data_partitions : ℕ
data_partitions = 16

-- the number of the partition that keeps the offsets of consumer groups
abbrev pub offsets_partition : ℕ
offsets_partition = 65535

-- a partition that keeps records of producers
abbrev pub IsDataPartition : ℕ → Type 0
IsDataPartition n = n < data_partitions

abbrev pub IsPartition : ℕ → Type 0
IsPartition n = IsDataPartition n ⊎ (n ≡ offsets_partition)

-- what a script prints for a partition
abbrev pub partition_text : ℕ → List ℕ
partition_text n = if n == offsets_partition then codes "o" else decimal n

-- a timeout in milliseconds, up to a quarter of an hour
abbrev pub IsTimeout : ℕ → Type 0
IsTimeout n = (1 ≤ n) × (n ≤ 900000)

-- the most bytes of a name
abbrev pub longest_name : ℕ
longest_name = 64

-- the bytes can name a transaction or a group: ASCII characters that are no space and no control
pub record IsName (bytes : List ℕ) : Type 0 where
  pub nonempty : 1 ≤ length bytes
  pub fits : length bytes ≤ longest_name
  pub graphic : All IsAsciiGraphic bytes

-- how many offsets one commit has
abbrev pub IsOffsetCount : ℕ → Type 0
IsOffsetCount n = (1 ≤ n) × (n ≤ 1000)
