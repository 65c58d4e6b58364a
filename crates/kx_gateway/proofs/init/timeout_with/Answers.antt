use Rattle.std.proofs.Common.{◌∙◌}
use Rattle.kx_gateway.proofs.Taken.{found_timeout}
use Rattle.kx_gateway.proofs.init.timeout_with.Goals as goal

pub returns : goal.returns
returns c = c.ok.ensures.value ∙ found_timeout c.args.millis c.try_from.result c.try_from.ensures.0
