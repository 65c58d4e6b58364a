use Rattle.std.proofs.Common.{◌∙◌, List, ap}
use Rattle.std.specs.Prelude.{slice_get}
use Rattle.kx_message.specs.declared.message.Message.{Message}
use Rattle.kx_script.proofs.world.message.Goals as goal

pub returns : goal.returns
returns c = λ s h.
    c.get.ensures
    ∙ ap (λ (sent : List Message). slice_get sent c.args.number) (c.all_sent.ensures s h)
