use Rattle.std.proofs.Common.{◌-◌}
use Rattle.kx_kafka_types.specs.Reading.{tag_at, repeated}
use Rattle.kx_kafka_types.proofs.Repeated.{Behind}
use Rattle.kx_kafka_types.proofs.reader.FieldReader.tags.Given as goal

abbrev pub invariant-loop : goal.invariant-loop
invariant-loop l =
    Behind tag_at (repeated tag_at l.count l.initial.self.rest.now) (l.count - l.counter)
    l.self.rest.now
