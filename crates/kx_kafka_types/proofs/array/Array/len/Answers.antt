use Rattle.std.proofs.Common.{sym, ap, ◌∙◌, length}
use Rattle.kx_kafka_types.specs.Reading.{fields_at}
use Rattle.kx_kafka_types.specs.Rows.{elements}
use Rattle.kx_kafka_types.proofs.Repeated.{count_is}
use Rattle.kx_kafka_types.proofs.array.Array.len.Goals as goal

pub returns : goal.returns
returns g c =
    sym (count_is (fields_at c.self.inside.version g.T.Struct.fields)
    c.self.inside.left (g.T.Reader.Reading.bytes c.self.inside.reader) c.self.invariant)
    ∙ ap (λ rows. length (elements g.T.Struct.fields rows)) c.self.view_is
