use Rattle.std.proofs.Common.{◌≡◌, [], ◌∷◌, Some, drop}
use Rattle.kx_broker.proofs.Building.{plain, pushes}
use Rattle.kx_broker.proofs.put.plain_batch.Given as goal

-- what is left comes to what all come to
abbrev pub invariant-loop-value : goal.invariant-loop-value
invariant-loop-value l = record {
  draft : l.builder ≡ plain l.builder.records;
  same : pushes l.builder.records (drop l.value-index l.value-items)
      ≡ pushes (Some []) (l.fn.values.first ∷ l.fn.values.more);
}
