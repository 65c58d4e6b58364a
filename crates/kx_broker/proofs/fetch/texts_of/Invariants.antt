use Rattle.std.proofs.Common.{◌≡◌, ◌++◌}
use Rattle.std.specs.List.{flat_map}
use Rattle.kx_broker.proofs.fetch.texts_of.Given as goal

-- those so far and those of what is left are those of all
abbrev pub invariant-loop-batch : goal.invariant-loop-batch
invariant-loop-batch l =
    l.bytes.items ++ flat_map (λ s. s.text) l.batch-iterator ≡ flat_map (λ s. s.text) l.fn.batches
