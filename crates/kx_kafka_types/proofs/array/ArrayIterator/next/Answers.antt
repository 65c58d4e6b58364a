use Rattle.std.proofs.Common.{◌≡◌, ◌-◌, suc, length, sym, ap, ◌∙◌, refl, rules, arith}
use Rattle.kx_kafka_types.specs.Reading.{fields_at, repeated}
use Rattle.kx_kafka_types.specs.Rows.{elements, list_of}
use Rattle.kx_kafka_types.proofs.Repeated.{none_left, steps, stuck}
use Rattle.kx_kafka_types.proofs.array.ArrayIterator.next.Goals as goal

pub returns-then-self-eq0-clause-steps : goal.returns-then-self-eq0-clause-steps
returns-then-self-eq0-clause-steps g c = (
  ap (elements g.T.Struct.fields) (sym c.self.view_is)
      ∙ none_left (fields_at c.self.inside.version g.T.Struct.fields)
      c.self.inside.left (g.T.Reader.Reading.bytes c.self.inside.reader) c.if-self-eq0.true,
  refl,
)

pub invariant_of-self : goal.invariant_of-self
invariant_of-self g c =
    (steps g.T.Struct.fields c.self.inside.version
    c.self.inside.left
    (g.T.Reader.Reading.bytes c.self.inside.reader) (g.T.Struct.values c.in-Ok.found)
    (g.T.Reader.Reading.bytes c.read.new.reader) (omega arith) c.self.invariant
    c.in-Ok.ensures).there

pub unreachable-requires : goal.unreachable-requires
unreachable-requires g c =
    stuck (fields_at c.self.inside.version g.T.Struct.fields)
    c.self.inside.left (g.T.Reader.Reading.bytes c.self.inside.reader) c.in-Err.field-0
    (omega arith) c.self.invariant c.in-Err.ensures

pub returns-clause-steps : goal.returns-clause-steps
returns-clause-steps g c =
    ap (elements g.T.Struct.fields) (sym c.self.view_is)
    ∙ (steps g.T.Struct.fields c.self.inside.version
    c.self.inside.left
    (g.T.Reader.Reading.bytes c.self.inside.reader) (g.T.Struct.values c.in-Ok.found)
    (g.T.Reader.Reading.bytes c.read.new.reader) (omega arith) c.self.invariant
    c.in-Ok.ensures).first

pub returns-clause-goes : goal.returns-clause-goes
returns-clause-goes g c =
    let e : length (elements g.T.Struct.fields c.args.self.now)
    ≡ suc (length (list_of (repeated (fields_at c.self.inside.version
    g.T.Struct.fields) (c.self.inside.left - 1) (g.T.Reader.Reading.bytes c.read.new.reader)))) =
    ap length (returns-clause-steps g c) in
    search rules
