use Rattle.std.proofs.Common.{◌-◌}
use Rattle.kx_kafka_types.specs.Reading.{fields_at, repeated}
use Rattle.kx_kafka_types.proofs.Repeated.{Behind}
use Rattle.kx_kafka_types.proofs.array.Array.with_len.Given as goal

abbrev pub invariant-loop : goal.invariant-loop
invariant-loop g l =
    let read = fields_at l.version g.T.Struct.fields in
    Behind read (repeated read l.left (g.T.Reader.Reading.bytes l.fn.reader)) (l.left - l.counter)
    (g.T.Reader.Reading.bytes l.reader)
