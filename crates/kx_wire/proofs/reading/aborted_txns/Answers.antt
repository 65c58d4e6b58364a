use Rattle.kx_message.specs.Reader.{repeated}
use Rattle.kx_wire.specs.Reading.{aborted_txn_at}
use Rattle.kx_wire.proofs.Repeated.{turn, stops, ends}
use Rattle.kx_wire.proofs.reading.aborted_txns.Goals as goal

pub returns-in_default : goal.returns-in_default
returns-in_default c = stops aborted_txn_at c.loop.aborted.items c.args.count c.loop.counter
    c.loop.fields.rest.now (repeated aborted_txn_at c.args.count c.args.fields.now.rest.now)
    c.loop-test.true c.in_default.ensures c.loop.invariant

pub loop-preserved : goal.loop-preserved
loop-preserved c = rw c.in-Ok.ensures.items (turn aborted_txn_at c.loop.aborted.items c.args.count
    c.loop.counter c.loop.fields.rest.now c.in-Some.txn c.aborted_txn.new.self.rest.now
    (repeated aborted_txn_at c.args.count c.args.fields.now.rest.now) c.loop-test.true
    c.in-Some.ensures c.loop.invariant)

pub returns : goal.returns
returns c = rw c.from_vec.ensures (ends aborted_txn_at c.loop.aborted.items c.args.count
    c.loop.counter c.loop.fields.rest.now
    (repeated aborted_txn_at c.args.count c.args.fields.now.rest.now) c.loop-test.false
    c.loop.invariant)
