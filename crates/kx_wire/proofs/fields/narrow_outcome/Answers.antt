use Rattle.kx_wire.proofs.Values.{found_outcome}
use Rattle.std.proofs.Common.{◌∙◌}
use Rattle.kx_wire.proofs.fields.narrow_outcome.Goals as goal

pub returns : goal.returns
returns c = c.ok.ensures.value ∙ found_outcome c.args.n c.try_from.result c.try_from.ensures
