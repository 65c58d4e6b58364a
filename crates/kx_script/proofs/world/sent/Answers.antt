use Rattle.std.proofs.Common.{◌∙◌, ap, length}
use Rattle.kx_script.proofs.world.sent.Goals as goal

pub returns : goal.returns
returns c = λ s h. c.len.ensures ∙ ap length (c.all_sent.ensures s h)
