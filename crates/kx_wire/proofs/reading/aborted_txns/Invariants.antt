use Rattle.std.proofs.Common.{◌≡◌, ◌-◌}
use Rattle.kx_message.specs.Reader.{repeated}
use Rattle.kx_wire.specs.Reading.{aborted_txn_at}
use Rattle.kx_wire.proofs.Repeated.{with_front}
use Rattle.kx_wire.proofs.reading.aborted_txns.Given as goal

abbrev pub invariant-loop : goal.invariant-loop
invariant-loop l =
    with_front l.aborted.items (repeated aborted_txn_at (l.count - l.counter) l.fields.rest.now)
    ≡ repeated aborted_txn_at l.count l.fn.fields.rest.now
