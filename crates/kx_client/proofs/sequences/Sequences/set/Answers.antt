use Rattle.std.proofs.Common.{ap, ◌∙◌}
use Rattle.kx_model.specs.Client.{with_sequence}
use Rattle.kx_client.specs.Internal.{sequences_in}
use Rattle.kx_client.proofs.Tables.{next_set}
use Rattle.kx_client.proofs.sequences.Sequences.set.Goals as goal

pub returns-clause-ok : goal.returns-clause-ok
returns-clause-ok c =
    ap sequences_in c.in_ok-insert.ensures.entries
    ∙ next_set c.args.partition c.args.next c.self.inside.by_partition.entries
    ∙ ap (λ s. with_sequence s c.args.partition c.args.next) c.self.view_is
