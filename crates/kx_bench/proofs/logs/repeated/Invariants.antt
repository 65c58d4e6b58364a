use Rattle.std.proofs.Common.{◌≡◌}
use Rattle.std.specs.Prelude.{length}
use Rattle.kx_bench.proofs.logs.repeated.Given as goal

-- each turn has appended one batch
abbrev pub invariant-loop : goal.invariant-loop
invariant-loop l = length l.partition.batches ≡ l.counter
