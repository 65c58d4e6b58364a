use Rattle.std.proofs.Common.{◌≡◌, ap, arith}
use Rattle.kx_grant.specs.Steps.{rank}
use Rattle.kx_grant.proofs.Rises.{behind}
use Rattle.kx_grant.proofs.laws.a_bump_answers_another_pair.Goals as goal

pub returns-clause-behind : goal.returns-clause-behind
returns-clause-behind c = λ g steps h r. behind steps g h r

pub returns-clause-another : goal.returns-clause-another
returns-clause-another c = λ g asked held h r e.
    let same : rank held ≡ rank g.granted = ap rank e in omega (arith, same, h, r)
