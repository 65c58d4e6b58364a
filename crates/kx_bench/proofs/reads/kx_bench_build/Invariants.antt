use Rattle.std.proofs.Common.{◌≤◌}
use Rattle.kx_batch.specs.Batch.{batch_limit}
use Rattle.kx_bench.proofs.reads.kx_bench_build.Given as goal

abbrev pub invariant-loop : goal.invariant-loop
invariant-loop l = l.size ≤ batch_limit
