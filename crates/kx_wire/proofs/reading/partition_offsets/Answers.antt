use Rattle.std.proofs.Common.{arith, length-append}
use Rattle.kx_message.specs.Reader.{repeated}
use Rattle.kx_wire.specs.Reading.{offset_at}
use Rattle.kx_wire.proofs.Repeated.{turn, stops, ends}
use Rattle.kx_wire.proofs.reading.partition_offsets.Goals as goal

pub returns-in_default-clause-read : goal.returns-in_default-clause-read
returns-in_default-clause-read c = stops offset_at c.loop.offsets.items c.args.count c.loop.counter
    c.loop.fields.rest.now (repeated offset_at c.args.count c.args.fields.now.rest.now)
    c.loop-test.true c.in_default.ensures c.loop.invariant.read

pub loop-preserved : goal.loop-preserved
loop-preserved c = rw c.in-Ok.ensures.items (record {
  read = turn offset_at c.loop.offsets.items c.args.count c.loop.counter c.loop.fields.rest.now
      c.in-Some.offset c.offset.new.self.rest.now
      (repeated offset_at c.args.count c.args.fields.now.rest.now) c.loop-test.true
      c.in-Some.ensures c.loop.invariant.read;
  count = simp length-append (omega (arith, c.loop.invariant.count));
})

pub returns-clause-read : goal.returns-clause-read
returns-clause-read c = ends offset_at c.loop.offsets.items c.args.count c.loop.counter
    c.loop.fields.rest.now (repeated offset_at c.args.count c.args.fields.now.rest.now)
    c.loop-test.false c.loop.invariant.read
