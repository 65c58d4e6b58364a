use Rattle.std.proofs.Common.{◌∙◌}
use Rattle.kx_gateway.proofs.Taken.{found_name}
use Rattle.kx_group_gateway.proofs.ids.group_of.Goals as goal

pub returns : goal.returns
returns c = c.ok.ensures.value ∙ found_name c.args.name.now c.try_from.result c.try_from.ensures.0
