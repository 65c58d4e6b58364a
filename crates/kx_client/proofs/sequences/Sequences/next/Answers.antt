use Rattle.std.proofs.Common.{◌≡◌, ap, ◌∙◌, nat_eq, rules}
use Rattle.std.specs.Prelude.{unwrap_or}
use Rattle.std.specs.Map.{lookup}
use Rattle.kx_model.specs.Client.{sequence_of}
use Rattle.kx_client.proofs.Tables.{next_found}
use Rattle.kx_client.proofs.sequences.Sequences.next.Goals as goal

pub returns : goal.returns
returns c =
    let found : c.unwrap_or.result
    ≡ unwrap_or (lookup (nat_eq c.args.partition) c.self.inside.by_partition.entries) 0 =
    search rules in
    found ∙ next_found c.args.partition c.self.inside.by_partition.entries
    ∙ ap (λ s. sequence_of s c.args.partition) c.self.view_is
