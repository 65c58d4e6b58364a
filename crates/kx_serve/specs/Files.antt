-- The names of a server's files and folders.
use Rattle.std.specs.Prelude.{◌≡◌, ℕ, List, [], ◌++◌, Option, Some, None, codes, nat_lt}
use Rattle.std.specs.Prelude.{if◌then◌else◌}
use Rattle.std.specs.Fmt.{decimal}
use Rattle.kx_message.specs.Ranges.{data_partitions}
use Rattle.kx_serve.specs.declared.files.LogFile.{LogFile}
use Rattle.kx_serve.specs.declared.files.LogFile.TheVariants as log

abbrev pub file_name : LogFile → List ℕ
file_name log.Coordinator = codes "co.log"
file_name (log.Partition number) = codes "p" ++ decimal number ++ codes ".log"
file_name log.Offsets = codes "po.log"

-- the file of a partition's log
abbrev pub file_of : ℕ → LogFile
file_of number = if nat_lt number data_partitions then log.Partition number else log.Offsets

-- a folder, if there is one, hasn't the empty name
abbrev pub IsNamed : Option (List ℕ) → Type 0
IsNamed None = Unit {0}
IsNamed (Some name) = name ≡ [] → ⊥
