-- What is counted of a batch that is read.
use Rattle.std.specs.Prelude.{ℕ, List, length, Option, None, Some, Result, Ok, Err, sum_by}
use Rattle.kx_batch.specs.Batch.{Spelled}
use Rattle.kx_batch.specs.Record.{Record}
use Rattle.kx_batch.specs.declared.fault.BatchFault.{BatchFault}

abbrev pub value_size : Option (List ℕ) → ℕ
value_size None = 0
value_size (Some value) = length value

-- the bytes of the values of these records
abbrev pub values_size : List Record → ℕ
values_size records = sum_by (λ r. value_size r.value) records

-- the same of a batch that was read; 0 if there is none
abbrev pub read_size : Result (Spelled × List ℕ) BatchFault → ℕ
read_size (Ok found) = values_size found.0.batch.records
read_size (Err fault) = 0
