use Rattle.std.proofs.Common.{◌≡◌, Err, refl, rules}
use Rattle.kx_kafka_types.specs.Reading.{fields_at, repeated}
use Rattle.kx_kafka_types.proofs.Repeated.{begins, turn, stops, ends, is_ok}
use Rattle.kx_kafka_types.proofs.array.Array.with_len.Goals as goal

pub loop-init : goal.loop-init
loop-init g c =
    begins (fields_at c.args.version g.T.Struct.fields) c.args.left 0
    (g.T.Reader.Reading.bytes c.args.reader.now) refl

pub returns-in_err-read : goal.returns-in_err-read
returns-in_err-read g c =
    let read = fields_at c.args.version g.T.Struct.fields in
    let total = repeated read c.args.left (g.T.Reader.Reading.bytes c.args.reader.now) in
    let e : total ≡ Err c.in_err-read.field-0.0 =
    stops read total c.args.left c.loop.counter (g.T.Reader.Reading.bytes c.loop.reader)
    c.in_err-read.field-0.0 c.loop-test.true c.in_err-read.ensures c.loop.invariant in
    search rules

pub loop-preserved : goal.loop-preserved
loop-preserved g c =
    let read = fields_at c.args.version g.T.Struct.fields in
    turn read (repeated read c.args.left (g.T.Reader.Reading.bytes c.args.reader.now)) c.args.left
    c.loop.counter (g.T.Reader.Reading.bytes c.loop.reader)
    (g.T.Struct.values c.in_ok-read.field-0) (g.T.Reader.Reading.bytes c.read.new.reader)
    c.loop-test.true c.in_ok-read.ensures c.loop.invariant

pub invariant_of-result : goal.invariant_of-result
invariant_of-result g c =
    let read = fields_at c.args.version g.T.Struct.fields in
    let total = repeated read c.args.left (g.T.Reader.Reading.bytes c.args.reader.now) in
    is_ok total _ (ends read total c.args.left c.loop.counter (g.T.Reader.Reading.bytes c.loop.reader)
    c.loop-test.false c.loop.invariant)

pub returns : goal.returns
returns g c =
    let read = fields_at c.args.version g.T.Struct.fields in
    let total = repeated read c.args.left (g.T.Reader.Reading.bytes c.args.reader.now) in
    ends read total c.args.left c.loop.counter (g.T.Reader.Reading.bytes c.loop.reader)
    c.loop-test.false c.loop.invariant
