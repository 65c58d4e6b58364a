use Rattle.std.proofs.Common.{◌+◌, ◌≤◌, ◌∷◌, take}
use Rattle.kx_client.specs.Internal.{IsBatchLen}
use Rattle.kx_client.proofs.values.Values.batch_len.Given as goal

abbrev pub invariant-loop-at : goal.invariant-loop-at
invariant-loop-at l = record {
  len : IsBatchLen l.len (l.self.first ∷ take l.at l.value-items);
  places : l.at + 1 ≤ l.len;
}
