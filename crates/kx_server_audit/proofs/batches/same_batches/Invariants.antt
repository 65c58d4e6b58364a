use Rattle.std.proofs.Common.{◌≡◌}
use Rattle.kx_log.specs.Log.{texts}
use Rattle.kx_server_audit.proofs.batches.same_batches.Given as goal

-- all batches are the same if those that are left are, and only then
abbrev pub invariant-loop-batch : goal.invariant-loop-batch
invariant-loop-batch l = record {
  can_go : (goal.iterator-loop-batch).can_next l.left;
  ends : (goal.iterator-loop-batch).is_finite l.left;
  same : texts l.left ≡ texts l.right → texts l.fn.a ≡ texts l.fn.b;
  only : l.fn.a ≡ l.fn.b → l.left ≡ l.right;
}
