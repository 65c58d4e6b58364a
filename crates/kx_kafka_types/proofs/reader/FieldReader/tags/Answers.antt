use Rattle.std.proofs.Common.{◌≡◌, Ok, Err, rules}
use Rattle.kx_kafka_types.specs.Rows.{list_of}
use Rattle.kx_kafka_types.specs.Reading.{tag_at, tags_at, repeated}
use Rattle.kx_kafka_types.proofs.Repeated.{turn, stops, ends}
use Rattle.kx_kafka_types.proofs.reader.FieldReader.tags.Goals as goal

pub returns-in_err-tag : goal.returns-in_err-tag
unfolding tags_at
returns-in_err-tag c =
    let total = repeated tag_at c.in_ok-count.count c.unsigned_varint.new.self.rest.now in
    let e : total ≡ Err c.in_err-tag.field-0.0 =
    stops tag_at total c.in_ok-count.count c.loop.counter c.loop.self.rest.now
    c.in_err-tag.field-0.0 c.loop-test.true c.in_err-tag.ensures c.loop.invariant in
    search rules

pub loop-preserved : goal.loop-preserved
loop-preserved c =
    turn tag_at (repeated tag_at c.in_ok-count.count c.unsigned_varint.new.self.rest.now)
    c.in_ok-count.count c.loop.counter c.loop.self.rest.now tt c.tag.new.self.rest.now
    c.loop-test.true c.in_ok-tag.ensures c.loop.invariant

pub returns : goal.returns
unfolding tags_at
returns c =
    let total = repeated tag_at c.in_ok-count.count c.unsigned_varint.new.self.rest.now in
    let e : total ≡ Ok (list_of total, c.loop.self.rest.now) =
    ends tag_at total c.in_ok-count.count c.loop.counter c.loop.self.rest.now c.loop-test.false
    c.loop.invariant in
    search rules
