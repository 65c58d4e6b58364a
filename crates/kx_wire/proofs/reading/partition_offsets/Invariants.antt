use Rattle.std.proofs.Common.{◌≡◌, ◌-◌, length}
use Rattle.kx_message.specs.Reader.{repeated}
use Rattle.kx_wire.specs.Reading.{offset_at}
use Rattle.kx_wire.proofs.Repeated.{with_front}
use Rattle.kx_wire.proofs.reading.partition_offsets.Given as goal

abbrev pub invariant-loop : goal.invariant-loop
invariant-loop l =
    record {
      read : with_front l.offsets.items (repeated offset_at (l.count - l.counter) l.fields.rest.now)
          ≡ repeated offset_at l.count l.fn.fields.rest.now;
      count : length l.offsets.items ≡ l.counter;
    }
