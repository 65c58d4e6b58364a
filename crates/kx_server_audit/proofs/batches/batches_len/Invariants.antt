use Rattle.std.proofs.Common.{◌≡◌, ◌+◌, length}
use Rattle.kx_log.specs.Log.{texts}
use Rattle.kx_server_audit.proofs.batches.batches_len.Given as goal

-- the bytes so far and those of the batches that are left are all
abbrev pub invariant-loop-batch : goal.invariant-loop-batch
invariant-loop-batch l = record {
  can_go : (goal.iterator-loop-batch).can_next l.batch-iterator;
  ends : (goal.iterator-loop-batch).is_finite l.batch-iterator;
  sum : l.len + length (texts l.batch-iterator) ≡ length (texts l.fn.batches);
}
