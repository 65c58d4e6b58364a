use Rattle.std.proofs.Common.{◌∙◌}
use Rattle.kx_example.proofs.Answers.{no_batches}
use Rattle.kx_example.proofs.partition.empty_partition.Goals as goal

pub returns-in-Ok-clause-empty : goal.returns-in-Ok-clause-empty
returns-in-Ok-clause-empty c =
    no_batches (c.new-2.ensures ∙ c.new.ensures.items) c.in-Ok.ensures
