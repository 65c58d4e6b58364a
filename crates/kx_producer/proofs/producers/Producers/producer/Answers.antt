use Rattle.std.proofs.Common.{ap, sym, ◌∙◌}
use Rattle.kx_producer.specs.Known.{Kept, known_of}
use Rattle.kx_producer.proofs.Tables.{known_of_entries}
use Rattle.kx_producer.proofs.producers.Producers.producer.Goals as goal

pub returns : goal.returns
returns c =
    c.get.ensures.value ∙ sym (known_of_entries c.self.inside.known.entries c.args.id)
    ∙ ap (λ (kept : Kept). known_of kept.table c.args.id) c.self.view_is
