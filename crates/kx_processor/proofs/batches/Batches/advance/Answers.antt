use Rattle.std.proofs.Common.{◌∙◌, ap}
use Rattle.kx_processor.specs.Batches.{without_first}
use Rattle.kx_processor.proofs.LastBatch.{one_less}
use Rattle.kx_processor.proofs.batches.Batches.advance.Goals as goal

-- src/batches.rt:82:5
pub returns-then-self-len : goal.returns-then-self-len
returns-then-self-len c =
    one_less c.self.inside.written c.self.inside.batches.items ∙ ap without_first c.self.view_is
