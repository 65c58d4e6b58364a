use Rattle.std.proofs.Common.{◌≡◌, take}
use Rattle.kx_producer.specs.Known.{noted_all}
use Rattle.kx_producer.proofs.producers.Producers.rebuild.Given as goal

abbrev pub invariant-loop-entry : goal.invariant-loop-entry
invariant-loop-entry l = l.producers.table ≡ noted_all (take l.entry-index l.entries)
