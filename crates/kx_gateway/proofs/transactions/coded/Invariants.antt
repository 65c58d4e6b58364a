use Rattle.std.proofs.Common.{◌≡◌, ◌++◌, map}
use Rattle.kx_gateway.specs.Transactions.{coded, indexes_in}
use Rattle.kx_gateway.proofs.Values.{error_values}
use Rattle.kx_gateway.proofs.transactions.coded.Given as goal

abbrev pub invariant-loop-partition : goal.invariant-loop-partition
invariant-loop-partition l = record {
  can : (goal.iterator-loop-partition).can_next l.partition-iterator;
  finite : (goal.iterator-loop-partition).is_finite l.partition-iterator;
  coded : coded (indexes_in l.fn.partitions) l.fn.codes
      ≡ map error_values l.errors.items
      ++ coded (indexes_in l.partition-iterator) l.rest;
}
