use Rattle.std.proofs.Common.{rules}
use Rattle.kx_cases.proofs.telling.value.Goals as goal

pub returns : goal.returns
returns g c = (c.parse.result, c.parse.ensures.value, search rules)
